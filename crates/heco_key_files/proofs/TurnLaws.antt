-- What is read of turns is what was spelled, for exactly the lists that rise within the slots.
use Rattle.std.proofs.Common.{ℕ, ◌+◌, ◌-◌, ◌^◌, ◌<◌, ◌≤◌, ◌&&◌, leb, ltb, List, [], ◌∷◌, length, refl, arith}
use Rattle.std.specs.Prelude.{IsTrue}
use Rattle.std.specs.List.{All}
use Rattle.std.specs.Int.{w16, to_be_bytes}
use Rattle.std.proofs.lemmas.Bool.{leb-true, le-leb, ltb-true, lt-ltb}
use Rattle.std.proofs.lemmas.List.Elements.{All-nil, All-cons, All-head, All-tail}
use Rattle.heco_nums.specs.Needs.{rises_from, IsRising}
use Rattle.heco_fields.specs.Formats.{within}
use Rattle.heco_nums.specs.Runs.{FitAlong}
use Rattle.heco_fields.proofs.Bools.{both_true, and_true}
use Rattle.heco_fields.proofs.Laws.{Law, same_law}
use Rattle.heco_fields.proofs.FieldLaws.{number_law, wide16}
use Rattle.heco_fields.proofs.ManyLaws.{counted_law, Counted}
use Rattle.heco_key_files.specs.KeyFiles.{turn, latest, turns, turns_text, AreTurns}

abbrev Turn : ℕ → ℕ → ℕ → Type 0
Turn slots last r = (r < 2 ^ 16) × IsTrue (leb (last + 1) r && leb r (slots - 1))

turn_law : (slots last : ℕ) → Law (turn slots last) (to_be_bytes w16) (Turn slots last)
turn_law slots last = number_law w16 (2 ^ 16) wide16 (λ r. leb (last + 1) r && leb r (slots - 1))

above : (slots last r : ℕ) → Turn slots last r → (last < r) × (r ≤ slots - 1)
above slots last r t =
    let b = both_true (leb (last + 1) r) (leb r (slots - 1)) t.1 in
    let low = leb-true (last + 1) r b.0 in
    (omega arith, leb-true r (slots - 1) b.1)

is_turn : (slots last r : ℕ) → slots ≤ 2 ^ 16 → last < r → r < slots → Turn slots last r
is_turn slots last r small low high = (omega arith, and_true (leb (last + 1) r) (leb r (slots - 1)) (le-leb (last + 1) r (omega arith)) (le-leb r (slots - 1) (omega arith)))

abbrev Amount : ℕ → ℕ → Type 0
Amount slots r = (1 ≤ r) × (r < slots)

rises_along : (slots last : ℕ) (rs : List ℕ) → 0 < slots → FitAlong (Turn slots) latest last rs → IsTrue (rises_from last rs) × All (Amount slots) rs
unfolding FitAlong
rises_along slots last [] pos fits = (refl, All-nil (Amount slots))
rises_along slots last (r ∷ rs) pos fits =
    let a = above slots last r fits.0 in
    let rest = rises_along slots r rs pos fits.1 in
    (and_true (ltb last r) (rises_from r rs) (lt-ltb last r a.0) rest.0, All-cons (Amount slots) r rs (omega arith, omega arith) rest.1)

along_rises : (slots last : ℕ) (rs : List ℕ) → slots ≤ 2 ^ 16 → IsTrue (rises_from last rs) → All (Amount slots) rs → FitAlong (Turn slots) latest last rs
unfolding FitAlong
along_rises slots last [] small rises amounts = tt
along_rises slots last (r ∷ rs) small rises amounts =
    let b = both_true (ltb last r) (rises_from r rs) rises in
    let here = All-head (Amount slots) r rs amounts in
    (is_turn slots last r small (ltb-true last r b.0) here.1, along_rises slots r rs small b.1 (All-tail (Amount slots) r rs amounts))

-- to rise from 0 is to rise and to begin above 0
rising_from : (rs : List ℕ) → IsTrue (rises_from 0 rs) → IsRising rs
rising_from [] h = refl
rising_from (r ∷ rs) h = (both_true (ltb 0 r) (rises_from r rs) h).1

from_rising : (slots : ℕ) (rs : List ℕ) → IsRising rs → All (Amount slots) rs → IsTrue (rises_from 0 rs)
from_rising slots [] rising amounts = refl
from_rising slots (r ∷ rs) rising amounts =
    let low = (All-head (Amount slots) r rs amounts).0 in
    and_true (ltb 0 r) (rises_from r rs) (lt-ltb 0 r (omega arith)) rising

-- turns that rise below the slots are fewer than the slots
few_from : (slots last : ℕ) (rs : List ℕ) → last < slots → IsTrue (rises_from last rs) → All (Amount slots) rs → last + length rs < slots
few_from slots last [] lt rises amounts = omega arith
few_from slots last (r ∷ rs) lt rises amounts =
    let b = both_true (ltb last r) (rises_from r rs) rises in
    let high = (All-head (Amount slots) r rs amounts).1 in
    let above = ltb-true last r b.0 in
    let rest = few_from slots r rs high b.1 (All-tail (Amount slots) r rs amounts) in
    omega arith

pub few_turns : (slots : ℕ) (rs : List ℕ) → 0 < slots → AreTurns slots rs → length rs < slots
few_turns slots rs pos t = let f = few_from slots 0 rs pos (from_rising slots rs t.rising t.amounts) t.amounts in omega arith

abbrev Number : ℕ → ℕ → Type 0
Number slots n = (n < 2 ^ 16) × IsTrue (leb 0 n && leb n (slots - 1))

is_number : (slots n : ℕ) → slots ≤ 2 ^ 16 → n < slots → Number slots n
is_number slots n small lt = (omega arith, and_true (leb 0 n) (leb n (slots - 1)) (le-leb 0 n (omega arith)) (le-leb n (slots - 1) (omega arith)))

pub turns_law : (slots : ℕ) → 0 < slots → slots ≤ 2 ^ 16 → Law (turns slots) turns_text (AreTurns slots)
unfolding turns
turns_law slots pos small =
    same_law (turns slots) turns_text turns_text (Counted (Number slots) (FitAlong (Turn slots) latest 0)) (AreTurns slots)
    (counted_law (within w16 0 (slots - 1)) (to_be_bytes w16) (Number slots) (turn slots) latest (to_be_bytes w16) (Turn slots) 0
    (number_law w16 (2 ^ 16) wide16 (λ n. leb 0 n && leb n (slots - 1))) (turn_law slots))
    (λ rs _. refl)
    (λ rs h. let r = rises_along slots 0 rs pos h.1 in record { rising = rising_from rs r.0; amounts = r.1 })
    (λ rs t. (is_number slots (length rs) small (few_turns slots rs pos t), along_rises slots 0 rs small (from_rising slots rs t.rising t.amounts) t.amounts))
