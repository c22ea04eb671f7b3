-- Numbers of least size modulo M.
use Prim.Native.Nat.{ℕ, ◌<◌, ◌+◌, ◌*◌, ◌≤◌}
use borrow.Author.Differences.{abs_is}
use lib.Dec.{ltb}
use lib.IntN.{ℤ, pos, ◌+ℤ◌, ◌*ℤ◌, neg_ℤ, negsuc, ◌-ℤ◌, nat_abs}
use mathlib.Core.Bool.{cond}
use mathlib.Core.Logic.{inl, inr}
use mathlib.Core.Path.{◌≡◌, refl}
use native.Mathlib.Nat.{mod-lt, mul-le-mul_left, mod-le}
use native.Mathlib.Omega.{arith}
use Rattle.std.proofs.lemmas.Bool.{cases_lt, lt-ltb, le-ltb}
use Rattle.std.proofs.lemmas.Int.{unsigned_abs-mul}
use Rattle.heco_ring.proofs.Integers.{lines, z_mul_add, z_mul_one, monomials}
use Rattle.heco_ring.proofs.Remainders.{rem-lt, rem_split, rem_cong, cong_add, cong_mul, cong_refl, cong_self, cong_neg, cong_trans, cong_sym}
use Rattle.heco_ring.proofs.Sizes.{abs_add, abs_neg}
use Rattle.heco_ring.specs.Remainders.{rem, quo, Cong}
use Rattle.heco_noise_laws.specs.Noise.{size}

-- a number of size at most E that is x modulo M
pub record Near (M : ℕ) (x : ℤ) (E : ℕ) : Type 0 where
  pub e : ℤ
  pub small : nat_abs e ≤ E
  pub same : Cong M x e

pub near_out : (M : ℕ) (x : ℤ) (E : ℕ) → 0 < M → size M x ≤ E → Near M x E
unfolding size
near_out M x E h l = elim (cases_lt (rem M x + rem M x) M) [
  | inl a ↦ record { e = pos (rem M x); small = omega arith; same = cong_sym M (pos (rem M x)) x (cong_self M x h) }
  | inr b ↦ (let r = rem-lt M x h in record {
    e = pos (rem M x) -ℤ pos M;
    small = omega (arith, lines, abs_is, rem-lt M x h);
    same = record { by = quo M x +ℤ pos 1; is = rw (z_mul_add (pos M) (quo M x) (pos 1), z_mul_one (pos M)) (omega (arith, lines, rem_split M x h)) };
  })
]

-- the remainder of e itself
small_rem : (M : ℕ) (e : ℤ) → 0 < M → size M e ≤ nat_abs e
unfolding size rem
small_rem M (pos a) h = omega (arith, mod-le a M)
small_rem M (negsuc a) h = omega (arith, mod-le a M, mod-lt a h)

pub near_in : (M : ℕ) (x : ℤ) (E : ℕ) → 0 < M → Near M x E → size M x ≤ E
unfolding size
near_in M x E h c = rw (rem_cong M x c.e h c.same) (omega (arith, small_rem M c.e h, c.small))

-- ---- what does not change the noise: z modulo q, m modulo t
pub same_noise : (q t : ℕ) (z y m l : ℤ) → Cong q z y → Cong t m l → Cong (q * t) (pos t *ℤ z -ℤ pos q *ℤ m) (pos t *ℤ y -ℤ pos q *ℤ l)
same_noise q t z y m l a b = record { by = a.by -ℤ b.by; is = let e : pos (q * t) ≡ pos q *ℤ pos t = refl in rw (e, a.is, b.is) (simp monomials (omega (arith, lines))) }

-- ---- the rows that are linear, at one coefficient
pub near_add : (M : ℕ) (x y : ℤ) (E F : ℕ) → Near M x E → Near M y F → Near M (x +ℤ y) (E + F)
near_add M x y E F a b = record { e = a.e +ℤ b.e; small = omega (arith, abs_add a.e b.e, a.small, b.small); same = cong_add M x a.e y b.e a.same b.same }

pub near_neg : (M : ℕ) (x : ℤ) (E : ℕ) → Near M x E → Near M (neg_ℤ x) E
near_neg M x E a = record { e = neg_ℤ a.e; small = rw (abs_neg a.e) a.small; same = cong_neg M x a.e a.same }

pub near_mul : (M : ℕ) (c x : ℤ) (E : ℕ) → Near M x E → Near M (c *ℤ x) (nat_abs c * E)
near_mul M c x E a = record { e = c *ℤ a.e; small = rw (unsigned_abs-mul c a.e) (mul-le-mul_left (nat_abs c) a.small); same = cong_mul M c c x a.e (cong_refl M c) a.same }

pub near_same : (M : ℕ) (x y : ℤ) (E : ℕ) → Cong M y x → Near M x E → Near M y E
near_same M x y E c a = record { e = a.e; small = a.small; same = cong_trans M y x a.e c a.same }

pub near_le : (M : ℕ) (x : ℤ) (E F : ℕ) → E ≤ F → Near M x E → Near M x F
near_le M x E F l a = record { e = a.e; small = omega (arith, a.small); same = a.same }

-- ---- the number of least size itself, and the multiple of M that it leaves
unfoldable pub near_e : ℕ → ℤ → ℤ
near_e M x = cond (ltb (rem M x + rem M x) M) (pos (rem M x)) (pos (rem M x) -ℤ pos M)

unfoldable pub near_c : ℕ → ℤ → ℤ
near_c M x = cond (ltb (rem M x + rem M x) M) (quo M x) (quo M x +ℤ pos 1)

pub near_is : (M : ℕ) (x : ℤ) → 0 < M → x ≡ near_e M x +ℤ pos M *ℤ near_c M x
unfolding near_e near_c
near_is M x h = elim (cases_lt (rem M x + rem M x) M) [
  | inl a ↦ rw (lt-ltb (rem M x + rem M x) M a) (omega (arith, lines, rem_split M x h))
  | inr b ↦ rw (le-ltb (rem M x + rem M x) M b, z_mul_add (pos M) (quo M x) (pos 1), z_mul_one (pos M)) (omega (arith, lines, rem_split M x h))
]

pub near_small : (M : ℕ) (x : ℤ) → 0 < M → nat_abs (near_e M x) ≤ size M x
unfolding near_e size
near_small M x h = elim (cases_lt (rem M x + rem M x) M) [
  | inl a ↦ rw (lt-ltb (rem M x + rem M x) M a) (omega arith)
  | inr b ↦ rw (le-ltb (rem M x + rem M x) M b) (omega (arith, lines, abs_is, rem-lt M x h))
]
