-- Products by polynomials of words, from those by the halves.
use Prim.Native.Nat.{ℕ, ◌+◌, ◌*◌, ◌/◌, ◌%◌, ◌^◌, ◌<◌, ◌≤◌}
use lib.IntN.{ℤ, pos, ◌+ℤ◌, ◌*ℤ◌, nat_abs}
use lib.ListN.{length, get_or}
use mathlib.Core.List.{List}
use mathlib.Core.Path.{◌≡◌, refl, sym, ap, ◌∙◌}
use native.Mathlib.Omega.{arith}
use Rattle.std.proofs.Math.Nat.{pow-le-pow_right}
use Rattle.heco_ring.proofs.Integers.{lines, monomials}
use Rattle.heco_ring.proofs.Linear.{at-plus, at-times, at-scale, times_plus, times_scale}
use Rattle.heco_ring.proofs.Sizes.{abs_add, times_size, weight-le}
use Rattle.heco_ring.proofs.Sums.{sum_ext}
use Rattle.heco_ring.proofs.Wrapping.{at-wholes}
use Rattle.heco_ring.specs.Ring.{sum_z, at, sign, wholes, plus, scale, times_at, times}
use Rattle.heco_ring.specs.Sizes.{weight}
use Rattle.heco_transform.specs.Halves.{IsSmall}
use Rattle.heco_transform.specs.Images.{bit_fields}
use Rattle.heco_transform.proofs.Parts.{parts_at, parts_below}

word_halves : (x : ℕ) → x < 2 ^ 58 → x ≡ x / 2 ^ 0 % 2 ^ 29 + 2 ^ 29 * (x / 2 ^ 29 % 2 ^ 29)
word_halves x h = omega arith

wholes_halves : (n k : ℕ) (K : List ℕ) → length K ≡ n → k < n → get_or K k 0 < 2 ^ 58 → at (wholes K) k ≡ at (wholes (bit_fields 0 29 K)) k +ℤ pos (2 ^ 29) *ℤ at (wholes (bit_fields 29 29 K)) k
wholes_halves n k K e h b =
    let inside : k < length K = omega arith in
    rw (at-wholes K k, at-wholes (bit_fields 0 29 K) k, at-wholes (bit_fields 29 29 K) k, parts_at 0 29 k K inside, parts_at 29 29 k K inside) (ap pos (word_halves (get_or K k 0) b))

times_ext : (n k : ℕ) (d a b : List ℤ) → ((j : ℕ) → j < n → at a j ≡ at b j) → times_at n d a k ≡ times_at n d b k
unfolding times_at
times_ext n k d a b h = sum_ext n (λ i. sum_z n (λ j. at d i *ℤ at a j *ℤ sign n (i + j) k)) (λ i. sum_z n (λ j. at d i *ℤ at b j *ℤ sign n (i + j) k)) (λ i l.
    sum_ext n (λ j. at d i *ℤ at a j *ℤ sign n (i + j) k) (λ j. at d i *ℤ at b j *ℤ sign n (i + j) k) (λ j jl. ap (λ (y : ℤ). at d i *ℤ y *ℤ sign n (i + j) k) (h j jl)))

pub times_parts : (n k : ℕ) (c : ℤ) (d x a b : List ℤ) → k < n → ((j : ℕ) → j < n → at x j ≡ at a j +ℤ c *ℤ at b j) → at (times n d x) k ≡ at (times n d a) k +ℤ c *ℤ at (times n d b) k
times_parts n k c d x a b h e =
    at-times n d x k h
    ∙ times_ext n k d x (plus n a (scale n c b)) (λ j l. e j l ∙ sym (rw (at-plus n a (scale n c b) j l, at-scale n c b j l) refl))
    ∙ sym (at-times n d (plus n a (scale n c b)) k h)
    ∙ rw (times_plus n d a (scale n c b), times_scale n c d b, at-plus n (times n d a) (scale n c (times n d b)) k h, at-scale n c (times n d b) k h) refl

half_size : (n s k : ℕ) (d : List ℤ) (K : List ℕ) → n ≤ 1024 → length K ≡ n → IsSmall n d → k < n → nat_abs (at (times n d (wholes (bit_fields s 29 K))) k) ≤ 3 * 2 ^ 39
half_size n s k d K nl e small h =
    let w : weight n d ≤ n * 3 = weight-le n 3 d (small.each) in
    let t : nat_abs (times_at n d (wholes (bit_fields s 29 K)) k) ≤ weight n d * 2 ^ 29 = times_size n d (wholes (bit_fields s 29 K)) (2 ^ 29) k (λ j l. rw (at-wholes (bit_fields s 29 K) j) (let jl : j < length K = omega arith in omega (arith, parts_below s 29 j K jl))) h in
    rw (at-times n d (wholes (bit_fields s 29 K)) k h) (omega (arith, w, t))

-- one product more
pub whole_more : (n k : ℕ) (S D a b : List ℤ) (K : List ℕ) → length K ≡ n → ((j : ℕ) → j < n → get_or K j 0 < 2 ^ 58) → k < n → at S k ≡ at a k +ℤ pos (2 ^ 29) *ℤ at b k →
    at (plus n S (times n D (wholes K))) k ≡ at (plus n a (times n D (wholes (bit_fields 0 29 K)))) k +ℤ pos (2 ^ 29) *ℤ at (plus n b (times n D (wholes (bit_fields 29 29 K)))) k
whole_more n k S D a b K e below h s =
    rw (
      at-plus n S (times n D (wholes K)) k h,
      at-plus n a (times n D (wholes (bit_fields 0 29 K))) k h,
      at-plus n b (times n D (wholes (bit_fields 29 29 K))) k h,
      s,
      times_parts n k (pos (2 ^ 29)) D (wholes K) (wholes (bit_fields 0 29 K)) (wholes (bit_fields 29 29 K)) h (λ j l. wholes_halves n j K e l (below j l)),
    )
    (regroup (pos (2 ^ 29)) (at a k) (at b k) (at (times n D (wholes (bit_fields 0 29 K))) k) (at (times n D (wholes (bit_fields 29 29 K))) k))
  where
    regroup : (c x y u v : ℤ) → (x +ℤ c *ℤ y) +ℤ (u +ℤ c *ℤ v) ≡ (x +ℤ u) +ℤ c *ℤ (y +ℤ v)
    regroup c x y u v = simp monomials (omega (arith, lines))

pub size_more : (n s k c : ℕ) (D a : List ℤ) (K : List ℕ) → n ≤ 1024 → length K ≡ n → IsSmall n D → k < n → nat_abs (at a k) ≤ c * (3 * 2 ^ 39) → nat_abs (at (plus n a (times n D (wholes (bit_fields s 29 K)))) k) ≤ (c + 1) * (3 * 2 ^ 39)
size_more n s k c D a K nl e small h b = rw (at-plus n a (times n D (wholes (bit_fields s 29 K))) k h)
    (omega (arith, abs_add (at a k) (at (times n D (wholes (bit_fields s 29 K))) k), half_size n s k D K nl e small h, b))

pub short : (d : ℕ) → d ≤ 10 → 2 ^ d ≤ 1024
short d h = let two : 0 < 2 = omega arith in pow-le-pow_right two h
