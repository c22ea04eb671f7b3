-- The sizes of centred constants and of scaled ones.
use Prim.Native.Nat.{ℕ, ◌+◌, ◌*◌, ◌^◌, ◌<◌, ◌≤◌}
use native.Mathlib.Omega.{arith}
use native.Mathlib.Nat.{div-lt_iff_lt-mul, mul-le-mul_left}
use mathlib.Core.Logic.{inl, inr}
use borrow.Author.Differences.{abs_is}
use lib.Dec.{ltb}
use lib.IntN.{nat_abs}
use Rattle.std.proofs.lemmas.Bool.{cases_Bool, ltb-true, ltb-false}
use Rattle.heco_nums.specs.Arithmetic.{centre_t, scaled}
use Rattle.heco_ring.proofs.Integers.{lines}

pub factor_small : (t c : ℕ) → c < t → t ≤ 65537 → nat_abs (centre_t t c) < 65537
unfolding centre_t
factor_small t c h s = elim (cases_Bool (ltb (2 * c) t)) [
  | inl e ↦ rw e (omega (arith, lines, abs_is, ltb-true (2 * c) t e))
  | inr e ↦ rw e (omega (arith, lines, abs_is, ltb-false (2 * c) t e))
]

pub scaled_below : (t c : ℕ) → c < t → t ≤ 65537 → scaled t c < 2 ^ 58
unfolding scaled
scaled_below t c h s = let b : c + 1 ≤ t = omega arith in
    let m : 2 ^ 58 * (c + 1) ≤ 2 ^ 58 * t = mul-le-mul_left (2 ^ 58) b in
    let p : 0 < t = omega arith in
    (div-lt_iff_lt-mul p).1 (omega (arith, m))
