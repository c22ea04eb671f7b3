-- The ring of whole numbers, and the rules by which its identities are found.
use Prim.Native.Nat.{ℕ, ◌*◌}
use borrow.Author.Differences.{ints, up, down, same_in, same_out, sum_is_lem, neg_is, product_is, lt_out, le_out, below_in, at_most_in, Apart-out}
use lib.IntN.{ℤ, pos, ◌+ℤ◌, ◌*ℤ◌, neg_ℤ, negsuc}
use mathlib.Core.Path.{◌≡◌, ap}
use native.Mathlib.Omega.{arith}

pub ruleset lines = (same_out, same_in, sum_is_lem, neg_is, lt_out, le_out, below_in, at_most_in, Apart-out)

-- ---- the ring of whole numbers
pub z_add_comm : (a b : ℤ) → a +ℤ b ≡ b +ℤ a
z_add_comm a b = omega (arith, lines)

pub z_add_assoc : (a b c : ℤ) → (a +ℤ b) +ℤ c ≡ a +ℤ (b +ℤ c)
z_add_assoc a b c = omega (arith, lines)

pub z_mul_comm : (a b : ℤ) → a *ℤ b ≡ b *ℤ a
z_mul_comm a b = omega (arith, ints)

pub z_mul_add : (a b c : ℤ) → a *ℤ (b +ℤ c) ≡ a *ℤ b +ℤ a *ℤ c
z_mul_add a b c = omega (arith, lines, product_is a b, product_is a c, product_is a (b +ℤ c), ap (λ (x : ℕ). up a * x) (sum_is_lem b c), ap (λ (x : ℕ). down a * x) (sum_is_lem b c))

pub z_add_mul : (a b c : ℤ) → (a +ℤ b) *ℤ c ≡ a *ℤ c +ℤ b *ℤ c
z_add_mul a b c = rw (z_mul_comm (a +ℤ b) c, z_mul_comm a c, z_mul_comm b c) (z_mul_add c a b)

pub z_mul_assoc : (a b c : ℤ) → (a *ℤ b) *ℤ c ≡ a *ℤ (b *ℤ c)
z_mul_assoc a b c = same_in _ _ (rw ((product_is (a *ℤ b) c).0, (product_is (a *ℤ b) c).1, (product_is a (b *ℤ c)).0, (product_is a (b *ℤ c)).1, (product_is a b).0, (product_is a b).1, (product_is b c).0, (product_is b c).1) (omega arith))

pub z_mul_left : (a b c : ℤ) → a *ℤ (b *ℤ c) ≡ b *ℤ (a *ℤ c)
z_mul_left a b c = rw (← (z_mul_assoc a b c), z_mul_comm a b, z_mul_assoc b a c)

pub z_neg_mul : (a b : ℤ) → neg_ℤ a *ℤ b ≡ neg_ℤ (a *ℤ b)
z_neg_mul a b = same_in _ _ (rw ((product_is (neg_ℤ a) b).0, (product_is (neg_ℤ a) b).1, (neg_is a).0, (neg_is a).1, (neg_is (a *ℤ b)).0, (neg_is (a *ℤ b)).1) (omega (arith, product_is a b)))

pub z_mul_neg : (a b : ℤ) → a *ℤ neg_ℤ b ≡ neg_ℤ (a *ℤ b)
z_mul_neg a b = rw (z_mul_comm a (neg_ℤ b), z_mul_comm a b) (z_neg_mul b a)

pub z_mul_one : (a : ℤ) → a *ℤ pos 1 ≡ a
z_mul_one a = omega (arith, ints)

pub z_one_mul : (a : ℤ) → pos 1 *ℤ a ≡ a
z_one_mul a = omega (arith, ints)

pub z_mul_zero : (a : ℤ) → a *ℤ pos 0 ≡ pos 0
z_mul_zero a = omega (arith, ints)

pub z_zero_mul : (a : ℤ) → pos 0 *ℤ a ≡ pos 0
z_zero_mul a = omega (arith, ints)

pub z_mul_minus : (a : ℤ) → a *ℤ negsuc 0 ≡ neg_ℤ a
z_mul_minus a = omega (arith, ints)

pub z_minus_mul : (a : ℤ) → negsuc 0 *ℤ a ≡ neg_ℤ a
z_minus_mul a = omega (arith, ints)

pub ruleset monomials = (z_mul_add, z_add_mul, z_neg_mul, z_mul_neg, z_mul_one, z_one_mul, z_mul_zero, z_zero_mul, z_mul_minus, z_minus_mul, z_mul_assoc, z_mul_comm, z_mul_left)
