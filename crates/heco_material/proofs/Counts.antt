-- How many words are drawn: few against the generator's stream.
use Rattle.std.proofs.Common.{◌≡◌, ℕ, suc, ◌+◌, ◌*◌, ◌^◌, ◌<◌, ◌≤◌, ltb, List, [], ◌∷◌, length, get_or, arith, subst, mul-le-mul}
use Rattle.std.specs.Prelude.{IsTrue}
use Rattle.std.proofs.lemmas.Bool.{ltb-true}
use Rattle.heco_nums.specs.Needs.{rises_from, IsRising}
use Rattle.heco_fields.proofs.Bools.{both_true}

-- a step more stays within all steps
pub step_within : (step i m : ℕ) → i < m → step * i + step ≤ step * m
step_within step i m lt =
    let le : step * (i + 1) ≤ step * m = mul-le-mul {n₁ = step} {m₁ = i + 1} {n₂ = step} {m₂ = m} (omega arith) (omega arith) in
    let e : step * (i + 1) ≡ step * i + step = omega arith in
    subst (λ x. x ≤ step * m) e le

-- the words of all keys
pub keys_few : (n h count : ℕ) → n ≤ 1024 → h ≤ 8 → count ≤ 65537 → h + 3 * n + 87 * n * count ≤ 2 ^ 40
keys_few n h count n_small h_small few =
    let le : n * count ≤ 1024 * 65537 = mul-le-mul {n₁ = n} {m₁ = count} {n₂ = 1024} {m₂ = 65537} n_small few in
    let e : 87 * n * count ≡ 87 * (n * count) = grind arith in
    omega arith

-- the words of all encryptions
pub encryptions_few : (n h count : ℕ) → n ≤ 1024 → h ≤ 8 → count < 2 ^ 32 → (h + 2 * n) * count ≤ 2 ^ 44
encryptions_few n h count n_small h_small few =
    let le : (h + 2 * n) * count ≤ 2056 * 2 ^ 32 = mul-le-mul {n₁ = h + 2 * n} {m₁ = count} {n₂ = 2056} {m₂ = 2 ^ 32} (omega arith) (omega arith) in
    omega arith

rises_short : (a : ℕ) (xs : List ℕ) (m : ℕ) → IsTrue (rises_from a xs) → ((i : ℕ) → get_or xs i 0 < m) → a < m → a + length xs < m
rises_short a [] m rises below lt = omega arith
rises_short a (x ∷ xs) m rises below lt =
    let b = both_true (ltb a x) (rises_from x xs) rises in
    let above = ltb-true a x b.0 in
    let rest = rises_short x xs m b.1 (λ i. below (suc i)) (below 0) in
    omega arith

-- a list of numbers below m that rises has at most m
pub rising_short : (xs : List ℕ) (m : ℕ) → IsRising xs → ((i : ℕ) → get_or xs i 0 < m) → length xs ≤ m
rising_short [] m rises below = omega arith
rising_short (x ∷ xs) m rises below = let rest = rises_short x xs m rises (λ i. below (suc i)) (below 0) in omega arith
