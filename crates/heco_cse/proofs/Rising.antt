-- Lists of numbers that rise.
use Rattle.std.proofs.Common.{◌≡◌, ℕ, zero, suc, ◌<◌, List, [], ◌∷◌, ◌++◌, length, refl, arith, true, get_or, nat_lt}
use Rattle.std.proofs.lemmas.Bool.{ltb-true, lt-ltb}
use native.Mathlib.Decide.{dec_lt}
use Rattle.heco_nums.specs.Needs.{rises_from, is_rising}
use Rattle.heco_ir.proofs.Built.{both, left, right}

rises_above : (a : ℕ) (xs : List ℕ) (k : ℕ) → rises_from a xs ≡ true → k < length xs → a < get_or xs k 0
rises_above a [] k h l = elim l [ ]
rises_above a (x ∷ xs) zero h l = ltb-true a x (left _ _ h)
rises_above a (x ∷ xs) (suc k) h l =
    let s : a < x = ltb-true a x (left _ _ h) in
    let r : x < get_or xs k 0 = rises_above x xs k (right (nat_lt a x) _ h) (omega arith) in
    omega arith

rises_rising : (a : ℕ) (xs : List ℕ) → rises_from a xs ≡ true → is_rising xs ≡ true
rises_rising a [] h = refl
rises_rising a (x ∷ xs) h = right (nat_lt a x) _ h

rising_less : (xs : List ℕ) (i j : ℕ) → is_rising xs ≡ true → i < j → j < length xs → get_or xs i 0 < get_or xs j 0
rising_less [] i j h l k = elim k [ ]
rising_less (x ∷ xs) i zero h l k = absurd (omega arith)
rising_less (x ∷ xs) zero (suc j) h l k = rises_above x xs j h (omega arith)
rising_less (x ∷ xs) (suc i) (suc j) h l k = rising_less xs i j (rises_rising x xs h) (omega arith) (omega arith)

-- each number stands once
pub rising_once : (xs : List ℕ) (i j : ℕ) → is_rising xs ≡ true → i < length xs → j < length xs → get_or xs i 0 ≡ get_or xs j 0 → i ≡ j
rising_once xs i j h li lj e =
    elim (dec_lt i j) [
      | Prim.yes l ↦ let r : get_or xs i 0 < get_or xs j 0 = rising_less xs i j h l lj in absurd (omega arith)
      | Prim.no l ↦ elim (dec_lt j i) [
        | Prim.yes k ↦ let r : get_or xs j 0 < get_or xs i 0 = rising_less xs j i h k li in absurd (omega arith)
        | Prim.no k ↦ omega arith
      ]
    ]

rises_push : (a : ℕ) (xs : List ℕ) (y : ℕ) → rises_from a xs ≡ true → a < y → ((k : ℕ) → k < length xs → get_or xs k 0 < y) → rises_from a (xs ++ y ∷ []) ≡ true
rises_push a [] y h l b = both _ _ (lt-ltb a y l) refl
rises_push a (x ∷ xs) y h l b = both _ _ (left _ _ h) (rises_push x xs y (right (nat_lt a x) _ h) (b 0 (omega arith)) (λ k lt. b (suc k) (omega arith)))

pub rising_push : (xs : List ℕ) (y : ℕ) → is_rising xs ≡ true → ((k : ℕ) → k < length xs → get_or xs k 0 < y) → is_rising (xs ++ y ∷ []) ≡ true
rising_push [] y h b = refl
rising_push (x ∷ xs) y h b = rises_push x xs y h (b 0 (omega arith)) (λ k lt. b (suc k) (omega arith))
