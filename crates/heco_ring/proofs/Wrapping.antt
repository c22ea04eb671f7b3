-- Arithmetic modulo a power of two, in words that wrap.
use Prim.Native.Nat.{ℕ, ◌<◌, ◌*◌, ◌%◌, ◌^◌, ◌-◌}
use lib.Bits.{bit_and}
use lib.IntN.{ℤ, pos, ◌+ℤ◌, ◌*ℤ◌}
use lib.ListN.{length, get_or}
use mathlib.Core.List.{List, map}
use mathlib.Core.Logic.{inl, inr}
use mathlib.Core.Path.{◌≡◌, refl, sym, ap, ◌∙◌}
use native.Mathlib.Omega.{arith}
use Rattle.std.proofs.lemmas.Bool.{cases_lt}
use Rattle.std.proofs.lemmas.List.{get_or-map, get_or_past, length-map}
use Rattle.std.proofs.lemmas.Nat.{and_mask}
use Rattle.heco_ring.proofs.Integers.{z_add_comm, z_mul_assoc}
use Rattle.heco_ring.proofs.Remainders.{rem_split, rem_cong, cong_add, cong_refl, cong_self, rem_nat}
use Rattle.heco_ring.specs.Remainders.{rem, quo, Cong}
use Rattle.heco_ring.specs.Ring.{at, wholes}

same_length : (f : ℕ → ℤ) (a : List ℕ) → length (map f a) ≡ length a
same_length f a = search (length-map)

pub at-wholes : (a : List ℕ) (i : ℕ) → at (wholes a) i ≡ pos (get_or a i 0)
unfolding at wholes
at-wholes a i = elim (cases_lt i (length a)) [
  | inl h ↦ get_or-map pos a i 0 (pos 0) h
  | inr h ↦ get_or_past (map pos a) i (pos 0) (omega (arith, same_length pos a)) ∙ ap pos (sym (get_or_past a i 0 h))
]

pub rem_onto : (M : ℕ) (z w : ℤ) → 0 < M → rem M (pos (rem M z) +ℤ w) ≡ rem M (z +ℤ w)
rem_onto M z w h = rem_cong M (pos (rem M z) +ℤ w) (z +ℤ w) h (cong_add M (pos (rem M z)) z w w (cong_self M z h) (cong_refl M w))

-- the remainder by a divisor of the modulus
pub rem_lower : (M K : ℕ) (z : ℤ) → 0 < M → 0 < M * K → rem (M * K) z % M ≡ rem M z
rem_lower M K z h g = sym (rem_nat M (rem (M * K) z)) ∙ sym (rem_cong M z (pos (rem (M * K) z)) h
    (record { by = pos K *ℤ quo (M * K) z; is = let p : pos (M * K) ≡ pos M *ℤ pos K = refl in rem_split (M * K) z g ∙ rw (p, z_mul_assoc (pos M) (pos K) (quo (M * K) z)) (z_add_comm (pos M *ℤ (pos K *ℤ quo (M * K) z)) (pos (rem (M * K) z))) }))

pub mask_58 : (o : ℕ) (z : ℤ) → o ≡ rem (2 ^ 64) z → bit_and o (2 ^ 58 - 1) ≡ rem (2 ^ 58) z
mask_58 o z e = and_mask o 58 ∙ rw e (rem_lower (2 ^ 58) 64 z (omega arith) (omega arith))

-- a congruence by a divisor of the modulus
pub cong_lower : (M K : ℕ) (a b : ℤ) → Cong (M * K) a b → Cong M a b
cong_lower M K a b c = record { by = pos K *ℤ c.by; is = let p : pos (M * K) ≡ pos M *ℤ pos K = refl in c.is ∙ rw (p, z_mul_assoc (pos M) (pos K) c.by) refl }
