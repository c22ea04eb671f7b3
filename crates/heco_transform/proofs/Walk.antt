-- What the recursion over the tree needs at each call.
use Prim.Native.Nat.{ℕ, suc, ◌+◌, ◌-◌, ◌*◌, ◌%◌, ◌^◌, ◌<◌, ◌≤◌}
use lib.IntN.{ℤ, pos, ◌+ℤ◌, ◌*ℤ◌}
use lib.ListN.{length, get_or}
use mathlib.Core.List.{List, ◌++◌}
use mathlib.Core.Logic.{inl, inr}
use mathlib.Core.Path.{◌≡◌, refl, ap, ◌∙◌}
use native.Mathlib.Nat.{pow-suc, one-le-pow, mul-le-mul_left, mod-eq_of_lt}
use native.Mathlib.Omega.{arith}
use Rattle.std.proofs.Common.{length-append}
use Rattle.std.proofs.Math.Nat.{pow-le-pow_right}
use Rattle.std.proofs.lemmas.Bool.{cases_lt}
use Rattle.std.proofs.lemmas.List.{get_or_append_left, get_or-append_right}
use Rattle.heco_ring.proofs.Integers.{lines, z_mul_one, z_one_mul}
use Rattle.heco_ring.proofs.Linear.{at-scale}
use Rattle.heco_ring.proofs.Remainders.{cong_eq}
use Rattle.heco_ring.proofs.Wrapping.{at-wholes}
use Rattle.heco_ring.specs.Remainders.{Cong, Same}
use Rattle.heco_ring.specs.Ring.{sum_z, at, wholes, scale}
use Rattle.heco_transform.specs.Modulus.{modulus}
use Rattle.heco_transform.specs.Values.{power, value_at, Values, fold}
use Rattle.heco_transform.proofs.Folds.{at-fold}

pub halves : (d : ℕ) → 0 < d → 2 ^ d ≡ 2 ^ (d - 1) + 2 ^ (d - 1)
halves d h = let e : d ≡ suc (d - 1) = omega arith in ap (λ (x : ℕ). 2 ^ x) e ∙ omega (arith, pow-suc 2 (d - 1))

pub power_positive : (d : ℕ) → 0 < 2 ^ d
power_positive d = one-le-pow d 2 (omega arith)

pub node_inside : (d i n : ℕ) → 0 < d → 2 ^ d * i + 2 ^ d ≤ 2 * n → i < n
node_inside d i n h b = inner (2 ^ d) (2 ^ (d - 1)) (halves d h) (power_positive (d - 1)) b
  where
    inner : (m g : ℕ) → m ≡ g + g → 0 < g → m * i + m ≤ 2 * n → i < n
    inner m g e p b = let f : m * i ≡ 2 * (g * i) = rw e (omega arith) in let l : i * 1 ≤ i * g = mul-le-mul_left i p in omega arith

-- the leaves under both children are those under the node
pub children_inside : (d i n : ℕ) → 0 < d → 2 ^ d * i + 2 ^ d ≤ 2 * n → 2 ^ (d - 1) * (2 * i) + 2 ^ (d - 1) + 2 ^ (d - 1) ≤ 2 * n
children_inside d i n h b = inner (2 ^ d) (2 ^ (d - 1)) (halves d h) b
  where
    inner : (m g : ℕ) → m ≡ g + g → m * i + m ≤ 2 * n → g * (2 * i) + g + g ≤ 2 * n
    inner m g e b = let f : m * i ≡ g * (2 * i) = rw e (omega arith) in omega arith

-- ---- two levels at once
pub fours : (d : ℕ) → 2 ≤ d → 2 ^ d ≡ 2 ^ (d - 2) + 2 ^ (d - 2) + (2 ^ (d - 2) + 2 ^ (d - 2))
fours d h = let e : d ≡ suc (suc (d - 2)) = omega arith in ap (λ (x : ℕ). 2 ^ x) e ∙ omega (arith, pow-suc 2 (suc (d - 2)), pow-suc 2 (d - 2))

pub nodes_inside : (d i n : ℕ) → 2 ≤ d → 2 ^ d * i + 2 ^ d ≤ 2 * n → 2 * i + 2 ≤ n
nodes_inside d i n h b = inner (2 ^ d) (2 ^ (d - 2)) (fours d h) (power_positive (d - 2)) b
  where
    inner : (m q : ℕ) → m ≡ q + q + (q + q) → 0 < q → m * i + m ≤ 2 * n → 2 * i + 2 ≤ n
    inner m q e p b = let f : m * i ≡ 4 * (q * i) = rw e (omega arith) in let l : i * 1 ≤ i * q = mul-le-mul_left i p in omega arith

-- the leaves under the four grandchildren are those under the node
pub grandchildren_inside : (d i n : ℕ) → 2 ≤ d → 2 ^ d * i + 2 ^ d ≤ 2 * n → 2 ^ (d - 2) * (4 * i) + 4 * 2 ^ (d - 2) ≤ 2 * n
grandchildren_inside d i n h b = inner (2 ^ d) (2 ^ (d - 2)) (fours d h) b
  where
    inner : (m q : ℕ) → m ≡ q + q + (q + q) → m * i + m ≤ 2 * n → q * (4 * i) + 4 * q ≤ 2 * n
    inner m q e b = let f : m * i ≡ q * (4 * i) = rw e (omega arith) in omega arith

-- the value of a constant
pub values_leaf : (p i : ℕ) (t : List ℕ) (a : List ℕ) → Values p 1 i t (wholes a) a
unfolding value_at sum_z power
values_leaf p i t a = record {
  each = λ k l. let e : k ≡ 0 = omega arith in rw (e, at-wholes a 0) (cong_eq p (pos (get_or a 0 0)) (pos 0 +ℤ pos (get_or a 0 0) *ℤ pos 1) (omega (arith, lines, z_mul_one (pos (get_or a 0 0)))));
}

-- sums of the two halves are the fold
pub same_fold : (p h : ℕ) (s : ℤ) (low high new : List ℕ) → length low ≡ h → ((k : ℕ) → k < h → Cong p (pos (get_or new k 0)) (pos (get_or low k 0) +ℤ s *ℤ pos (get_or high k 0))) → Same p h (wholes new) (fold h s (wholes (low ++ high)))
same_fold p h s low high new n c = record {
  each = λ k l.
      let kl : k < length low = omega arith in
      let g : h ≤ h + k = omega arith in
      let e : h + k - h ≡ k = omega arith in
      rw (at-wholes new k, at-fold h s (wholes (low ++ high)) k l, at-wholes (low ++ high) k, at-wholes (low ++ high) (h + k), get_or_append_left low high 0 k kl, get_or-append_right low high h (h + k) 0 n g, e) (c k l);
}

-- a part of a list is as small as the list
pub front_below : (b i : ℕ) (a low high : List ℕ) → a ≡ low ++ high → ((k : ℕ) → k < length a → get_or a k 0 < b) → i < length low → get_or low i 0 < b
front_below b i a low high e h l = let s : get_or a i 0 ≡ get_or low i 0 = rw e (get_or_append_left low high 0 i l) in omega (arith, h i (omega (arith, ap length e, length-append low high)))

pub back_below : (b i : ℕ) (a low high : List ℕ) → a ≡ low ++ high → ((k : ℕ) → k < length a → get_or a k 0 < b) → i < length high → get_or high i 0 < b
back_below b i a low high e h l =
    let g : length low ≤ length low + i = omega arith in
    let m : length low + i - length low ≡ i = omega arith in
    let s : get_or a (length low + i) 0 ≡ get_or high i 0 = rw (e, get_or-append_right low high (length low) (length low + i) 0 refl g, m) refl in
    omega (arith, h (length low + i) (omega (arith, ap length e, length-append low high)))

pub first_below : (b i : ℕ) (a low high first second : List ℕ) → a ≡ low ++ high → low ≡ first ++ second → ((k : ℕ) → k < length a → get_or a k 0 < b) → i < length first → get_or first i 0 < b
first_below b i a low high first second e f h l = front_below b i low first second f (λ k m. front_below b k a low high e h m) l

-- two bit_fields that are small
pub both_below : (b : ℕ) (low high : List ℕ) → ((k : ℕ) → k < length low → get_or low k 0 < b) → ((k : ℕ) → k < length high → get_or high k 0 < b) → (k : ℕ) → k < length (low ++ high) → get_or (low ++ high) k 0 < b
both_below b low high f g k l = elim (cases_lt k (length low)) [
  | inl lt ↦ rw (get_or_append_left low high 0 k lt) (f k lt)
  | inr ge ↦ rw (get_or-append_right low high (length low) k 0 refl ge) (g (k - length low) (omega (arith, length-append low high)))
]

-- the bound of the way back is a word
pub power_small : (d : ℕ) → d ≤ 10 → 2 ^ d ≤ 1024
power_small d h = let two : 0 < 2 = omega arith in pow-le-pow_right two h

pub bound_is : (d : ℕ) → d ≤ 10 → modulus * 2 ^ d % 2 ^ 64 ≡ modulus * 2 ^ d
bound_is d h = mod-eq_of_lt (omega (arith, power_small d h))

pub bound_multiple : (d : ℕ) → d ≤ 10 → modulus * 2 ^ d % 2 ^ 64 % modulus ≡ 0
bound_multiple d h = rw (bound_is d h) (omega arith)

pub bound_small : (d : ℕ) → d ≤ 10 → modulus * 2 ^ d % 2 ^ 64 ≤ 2 ^ 63
bound_small d h = rw (bound_is d h) (omega (arith, power_small d h))

-- once the polynomial
pub same_leaf : (p i : ℕ) (t v : List ℕ) (b : List ℤ) → Values p 1 i t b v → Same p 1 (wholes v) (scale 1 (pos 1) b)
unfolding value_at sum_z power
same_leaf p i t v b s = record {
  each = λ k l. let e : k ≡ 0 = omega arith in rw (e, at-wholes v 0, at-scale 1 (pos 1) b 0 (omega arith), z_one_mul (at b 0))
      (let f : pos 0 +ℤ at b 0 *ℤ pos 1 ≡ at b 0 = rw (z_mul_one (at b 0)) (omega (arith, lines)) in rw f at (s.each 0 (omega arith)));
}

pub power_half : (d : ℕ) → d ≤ 9 → 2 ^ d ≤ 512
power_half d h = let two : 0 < 2 = omega arith in pow-le-pow_right two h
