-- What is read of an evaluation key is what was spelled, for exactly the keys of the preset.
use Rattle.std.proofs.Common.{◌≡◌, ℕ, zero, suc, ◌+◌, ◌^◌, ◌<◌, ◌≤◌, Bool, true, false, ◌&&◌, leb, eqb, List, [], ◌++◌, length, refl, sym, ap, ◌∙◌, arith}
use Rattle.std.specs.Prelude.{IsTrue}
use Rattle.std.specs.List.{flat_map, All}
use Rattle.std.specs.Int.{w8, to_be_bytes}
use Rattle.std.proofs.lemmas.Bool.{leb-true}
use Rattle.std.proofs.lemmas.List.Elements.{All-get_or, All-weaker}
use Rattle.heco_nums.specs.declared.preset.Preset.{Preset}
use Rattle.heco_nums.proofs.PresetFacts.{facts}
use Rattle.heco_fields.specs.Formats.{Value, within, many, ◌>>=◌ as ◌then◌}
use Rattle.heco_nums.specs.Runs.{stays}
use Rattle.heco_fields.proofs.Bools.{both_true}
use Rattle.heco_fields.proofs.Laws.{Law, then_law, last_law, same_law}
use Rattle.heco_fields.proofs.FieldLaws.{number_law, wide8}
use Rattle.heco_fields.proofs.ManyLaws.{each_law}
use Rattle.heco_nums.specs.MaterialBounds.{AreWords}
use Rattle.heco_scheme.specs.Keys.{AreRows}
use Rattle.heco_lists.specs.ListFormat.{words, words_text}
use Rattle.heco_lists.proofs.ListLaws.{words_law}
use Rattle.heco_key_files.specs.KeyFiles.{EvalLists, eval_lists, bit, pair, switch_key, turns, evaluation, pair_text, switch_text, turns_text, lists_text, IsPair, IsSwitchList, AreTurns, AreEvalLists}
use Rattle.heco_key_files.proofs.TurnLaws.{turns_law}

pair_law : (n s : ℕ) → Law (pair n s) pair_text (IsPair n)
unfolding pair
pair_law n s =
    let PairOf : List ℕ → List ℕ × List ℕ → Type 0 = λ a x. AreWords n x.1 × ((a, x.1) ≡ x) in
    same_law (pair n s) pair_text pair_text (λ (x : List ℕ × List ℕ). AreWords n x.0 × PairOf x.0 x) (IsPair n)
    (then_law (words n) (λ a. words n then λ b. Value (a, b)) words_text (λ (x : List ℕ × List ℕ). words_text x.1) (AreWords n) PairOf (λ x. x.0) (words_law n)
    (λ a _. last_law (words n) (λ b. (a, b)) (λ x. x.1) words_text (AreWords n) (words_law n) (λ b. refl))
    (λ a x h. ap (λ (t : List ℕ × List ℕ). t.0) (sym h.1)))
    (λ x _. refl) (λ x h. (h.0, h.1.0)) (λ x h. (h.0, (h.1, refl)))

switch_key_law : (n s : ℕ) → Law (switch_key n s) switch_text (IsSwitchList n)
unfolding switch_key switch_text
switch_key_law n s = each_law (pair n) pair_text (IsPair n) (pair_law n) 29 0

abbrev pub AreSwitches : ℕ → ℕ → List (List (List ℕ × List ℕ)) → Type 0
AreSwitches n count keys = (length keys ≡ count) × All (IsSwitchList n) keys

pub switches_law : (n count : ℕ) → Law (many (switch_key n) stays count 0) (flat_map switch_text) (AreSwitches n count)
switches_law n count = each_law (switch_key n) switch_text (IsSwitchList n) (switch_key_law n) count 0

-- a switch key that is read has its pairs of n places
pub switches_rows : (n : ℕ) (keys : List (List (List ℕ × List ℕ))) → All (IsSwitchList n) keys → All (AreRows n) keys
switches_rows n keys h = All-weaker (IsSwitchList n) (AreRows n) are_rows keys h
  where
    are_rows : (k : List (List ℕ × List ℕ)) → IsSwitchList n k → AreRows n k
    are_rows k h = record {
      count = h.0;
      firsts = λ i l. (All-get_or (IsPair n) k i ([], []) (omega (arith, h.0)) h.1).0.long;
      seconds = λ i l. (All-get_or (IsPair n) k i ([], []) (omega (arith, h.0)) h.1).1.long;
    }

abbrev Last : ℕ → ℕ → Bool → List ℕ → List ℕ → List ℕ → EvalLists → Type 0
Last n count relin rs p0 p1 e = AreSwitches n count e.switch × (eval_lists relin rs p0 p1 e.switch ≡ e)

abbrev FromSecond : ℕ → ℕ → Bool → List ℕ → List ℕ → EvalLists → Type 0
FromSecond n count relin rs p0 e = AreWords n e.p1 × Last n count relin rs p0 e.p1 e

abbrev FromFirst : ℕ → ℕ → Bool → List ℕ → EvalLists → Type 0
FromFirst n count relin rs e = AreWords n e.p0 × FromSecond n count relin rs e.p0 e

abbrev FromTurns : ℕ → ℕ → ℕ → EvalLists → Type 0
FromTurns n slots b e = AreTurns slots e.turns × FromFirst n (b + length e.turns) (eqb b 1) e.turns e

abbrev IsBit : ℕ → Type 0
IsBit b = (b < 2 ^ 8) × IsTrue (leb 0 b && leb b 1)

bit_is : (b : Bool) → eqb (bit b) 1 ≡ b
bit_is true = refl
bit_is false = refl

bit_small : (b : Bool) → IsBit (bit b)
bit_small true = (omega arith, refl)
bit_small false = (omega arith, refl)

bit_of : (b : ℕ) → b ≤ 1 → bit (eqb b 1) ≡ b
bit_of zero le = refl
bit_of (suc zero) le = refl
bit_of (suc (suc b)) le = absurd (omega arith)

at_most_one : (b : ℕ) → IsBit b → b ≤ 1
at_most_one b h = leb-true b 1 (both_true (leb 0 b) (leb b 1) h.1).1

abbrev from_turns_text : EvalLists → List ℕ
from_turns_text e = turns_text e.turns ++ (words_text e.p0 ++ (words_text e.p1 ++ flat_map switch_text e.switch))

second_law : (n count : ℕ) (relin : Bool) (rs p0 : List ℕ) → Law (words n then λ p1. many (switch_key n) stays count 0 then λ w. Value (eval_lists relin rs p0 p1 w)) (λ e. words_text e.p1 ++ flat_map switch_text e.switch) (FromSecond n count relin rs p0)
second_law n count relin rs p0 =
    then_law (words n) (λ p1. many (switch_key n) stays count 0 then λ w. Value (eval_lists relin rs p0 p1 w)) words_text (λ (e : EvalLists). flat_map switch_text e.switch) (AreWords n) (Last n count relin rs p0) (λ e. e.p1) (words_law n)
    (λ p1 _. last_law (many (switch_key n) stays count 0) (eval_lists relin rs p0 p1) (λ e. e.switch) (flat_map switch_text) (AreSwitches n count) (switches_law n count) (λ w. refl))
    (λ p1 e h. ap (λ (t : EvalLists). t.p1) (sym h.1))

first_law : (n count : ℕ) (relin : Bool) (rs : List ℕ) → Law (words n then λ p0. words n then λ p1. many (switch_key n) stays count 0 then λ w. Value (eval_lists relin rs p0 p1 w)) (λ e. words_text e.p0 ++ (words_text e.p1 ++ flat_map switch_text e.switch)) (FromFirst n count relin rs)
first_law n count relin rs =
    then_law (words n) (λ p0. words n then λ p1. many (switch_key n) stays count 0 then λ w. Value (eval_lists relin rs p0 p1 w)) words_text (λ (e : EvalLists). words_text e.p1 ++ flat_map switch_text e.switch) (AreWords n) (FromSecond n count relin rs) (λ e. e.p0) (words_law n)
    (λ p0 _. second_law n count relin rs p0)
    (λ p0 e h. ap (λ (t : EvalLists). t.p0) (sym h.1.1))

from_turns_law : (n slots b : ℕ) → 0 < slots → slots ≤ 2 ^ 16 → Law (turns slots then λ rs. words n then λ p0. words n then λ p1. many (switch_key n) stays (b + length rs) 0 then λ w. Value (eval_lists (eqb b 1) rs p0 p1 w)) from_turns_text (FromTurns n slots b)
from_turns_law n slots b pos small =
    then_law (turns slots) (λ rs. words n then λ p0. words n then λ p1. many (switch_key n) stays (b + length rs) 0 then λ w. Value (eval_lists (eqb b 1) rs p0 p1 w)) turns_text (λ (e : EvalLists). words_text e.p0 ++ (words_text e.p1 ++ flat_map switch_text e.switch)) (AreTurns slots) (λ rs. FromFirst n (b + length rs) (eqb b 1) rs) (λ e. e.turns) (turns_law slots pos small)
    (λ rs _. first_law n (b + length rs) (eqb b 1) rs)
    (λ rs e h. ap (λ (t : EvalLists). t.turns) (sym h.1.1.1))

-- what follows the first byte tells that byte
with_bit_law : (n slots b : ℕ) → 0 < slots → slots ≤ 2 ^ 16 → IsBit b → Law (turns slots then λ rs. words n then λ p0. words n then λ p1. many (switch_key n) stays (b + length rs) 0 then λ w. Value (eval_lists (eqb b 1) rs p0 p1 w)) from_turns_text (λ e. (bit e.relin ≡ b) × FromTurns n slots b e)
with_bit_law n slots b pos small is =
    same_law (turns slots then λ rs. words n then λ p0. words n then λ p1. many (switch_key n) stays (b + length rs) 0 then λ w. Value (eval_lists (eqb b 1) rs p0 p1 w)) from_turns_text from_turns_text (FromTurns n slots b) (λ e. (bit e.relin ≡ b) × FromTurns n slots b e) (from_turns_law n slots b pos small)
    (λ e _. refl) (λ e h. (ap (λ (t : EvalLists). bit t.relin) (sym h.1.1.1.1) ∙ bit_of b (at_most_one b is), h)) (λ e h. h.1)

pub evaluation_law : (n slots : ℕ) → 0 < slots → slots ≤ 2 ^ 16 → Law (evaluation n slots) lists_text (AreEvalLists n slots)
unfolding evaluation
evaluation_law n slots pos small =
    same_law (evaluation n slots) lists_text lists_text (λ (e : EvalLists). IsBit (bit e.relin) × ((bit e.relin ≡ bit e.relin) × FromTurns n slots (bit e.relin) e)) (AreEvalLists n slots)
    (then_law (within w8 0 1) (λ b. turns slots then λ rs. words n then λ p0. words n then λ p1. many (switch_key n) stays (b + length rs) 0 then λ w. Value (eval_lists (eqb b 1) rs p0 p1 w)) (to_be_bytes w8) from_turns_text IsBit (λ b e. (bit e.relin ≡ b) × FromTurns n slots b e) (λ (e : EvalLists). bit e.relin)
    (number_law w8 (2 ^ 8) wide8 (λ b. leb 0 b && leb b 1)) (λ b is. with_bit_law n slots b pos small is) (λ b e h. h.0))
    (λ e _. refl)
    (λ e h. record { turns = h.1.1.0; p0 = h.1.1.1.0; p1 = h.1.1.1.1.0; count = h.1.1.1.1.1.0.0; switch = h.1.1.1.1.1.0.1 })
    (λ e h. (bit_small e.relin, (refl, (h.turns, (h.p0, (h.p1, ((h.count, h.switch), ap (λ b. eval_lists b e.turns e.p0 e.p1 e.switch) (bit_is e.relin))))))))

pub preset_law : (p : Preset) → Law (evaluation p.n p.slots) lists_text (AreEvalLists p.n p.slots)
preset_law p =
    let f = facts p in
    let half = f.slots_half in
    let small = f.n_small in
    let pos = f.n_pos in
    evaluation_law p.n p.slots (omega arith) (omega arith)
