-- Finite sums.
use Prim.Native.Nat.{ℕ, zero, suc, ◌<◌}
use lib.IntN.{ℤ, pos, ◌+ℤ◌, ◌*ℤ◌, neg_ℤ}
use mathlib.Core.Path.{◌≡◌, refl, sym, ap, ◌∙◌}
use native.Mathlib.Omega.{arith}
use Rattle.heco_ring.proofs.Integers.{lines, z_mul_add, z_add_mul, z_mul_zero, z_zero_mul}
use Rattle.heco_ring.specs.Ring.{sum_z}

pub sum_ext : (n : ℕ) (f g : ℕ → ℤ) → ((i : ℕ) → i < n → f i ≡ g i) → sum_z n f ≡ sum_z n g
unfolding sum_z
sum_ext zero f g h = refl
sum_ext (suc n) f g h = let e : sum_z n f ≡ sum_z n g = sum_ext n f g (λ i l. h i (omega arith)) in let d : f n ≡ g n = h n (omega arith) in cc

pub sum_add : (n : ℕ) (f g : ℕ → ℤ) → sum_z n (λ i. f i +ℤ g i) ≡ sum_z n f +ℤ sum_z n g
unfolding sum_z
sum_add zero f g = refl
sum_add (suc n) f g = omega (arith, lines, sum_add n f g)

pub sum_neg : (n : ℕ) (f : ℕ → ℤ) → sum_z n (λ i. neg_ℤ (f i)) ≡ neg_ℤ (sum_z n f)
unfolding sum_z
sum_neg zero f = refl
sum_neg (suc n) f = omega (arith, lines, sum_neg n f)

pub sum_mul : (n : ℕ) (c : ℤ) (f : ℕ → ℤ) → sum_z n (λ i. c *ℤ f i) ≡ c *ℤ sum_z n f
unfolding sum_z
sum_mul zero c f = sym (z_mul_zero c)
sum_mul (suc n) c f = rw (z_mul_add c (sum_z n f) (f n)) (omega (arith, lines, sum_mul n c f))

pub sum_mul_right : (n : ℕ) (c : ℤ) (f : ℕ → ℤ) → sum_z n (λ i. f i *ℤ c) ≡ sum_z n f *ℤ c
unfolding sum_z
sum_mul_right zero c f = sym (z_zero_mul c)
sum_mul_right (suc n) c f = rw (z_add_mul (sum_z n f) (f n) c) (omega (arith, lines, sum_mul_right n c f))

pub sum_zero : (n : ℕ) → sum_z n (λ i. pos 0) ≡ pos 0
unfolding sum_z
sum_zero zero = refl
sum_zero (suc n) = omega (arith, lines, sum_zero n)

pub sum_swap : (n m : ℕ) (f : ℕ → ℕ → ℤ) → sum_z n (λ i. sum_z m (λ j. f i j)) ≡ sum_z m (λ j. sum_z n (λ i. f i j))
unfolding sum_z
sum_swap zero m f = sym (sum_zero m)
sum_swap (suc n) m f = ap (λ (x : ℤ). x +ℤ sum_z m (λ j. f n j)) (sum_swap n m f) ∙ sym (sum_add m (λ j. sum_z n (λ i. f i j)) (λ j. f n j))
