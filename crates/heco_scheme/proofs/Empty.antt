-- A part that is missing counts as 0.
use Prim.Native.Nat.{ℕ, ◌+◌, ◌<◌}
use native.Mathlib.Omega.{arith}
use mathlib.Core.Path.{◌≡◌, refl, ◌∙◌}
use mathlib.Core.List.{List, []}
use lib.IntN.{ℤ, pos, ◌+ℤ◌, ◌*ℤ◌}
use Rattle.std.proofs.lemmas.List.{get_or_past}
use Rattle.heco_noise_laws.specs.Noise.{phase}
use Rattle.heco_ring.proofs.Congruence.{same_trans}
use Rattle.heco_ring.proofs.Integers.{lines, z_zero_mul, z_mul_zero}
use Rattle.heco_ring.proofs.Linear.{at-plus, at-times, at-negate, at-scale}
use Rattle.heco_ring.proofs.Remainders.{cong_refl}
use Rattle.heco_ring.proofs.Sums.{sum_ext, sum_zero}
use Rattle.heco_ring.specs.Remainders.{Same}
use Rattle.heco_ring.specs.Ring.{at, plus, times, times_at, negate, scale, sum_z, sign}

pub at-empty : (k : ℕ) → at [] k ≡ pos 0
unfolding at
at-empty k = get_or_past [] k (pos 0) (omega arith)

-- a list whose places are 0
pub record Zeros (n : ℕ) (a : List ℤ) : Type 0 where
  pub zeros : (k : ℕ) → k < n → at a k ≡ pos 0

pub empty_zeros : (n : ℕ) → Zeros n []
empty_zeros n = record { zeros = λ k h. at-empty k }

pub plus_zeros : (n : ℕ) (a b : List ℤ) → Zeros n a → Zeros n b → Zeros n (plus n a b)
plus_zeros n a b x y = record { zeros = λ k h. rw (at-plus n a b k h, x.zeros k h, y.zeros k h) refl }

pub negate_zeros : (n : ℕ) (a : List ℤ) → Zeros n a → Zeros n (negate n a)
negate_zeros n a x = record { zeros = λ k h. rw (at-negate n a k h, x.zeros k h) refl }

pub scale_zeros : (n : ℕ) (c : ℤ) (a : List ℤ) → Zeros n a → Zeros n (scale n c a)
scale_zeros n c a x = record { zeros = λ k h. rw (at-scale n c a k h, x.zeros k h) (z_mul_zero c) }

pub times_zeros : (n : ℕ) (a s : List ℤ) → Zeros n a → Zeros n (times n a s)
unfolding times_at
times_zeros n a s x = record {
  zeros = λ k h. at-times n a s k h
      ∙ sum_ext n (λ i. sum_z n (λ j. at a i *ℤ at s j *ℤ sign n (i + j) k)) (λ i. pos 0) (λ i l. sum_ext n (λ j. at a i *ℤ at s j *ℤ sign n (i + j) k) (λ j. pos 0) (λ j jl. rw (x.zeros i l, z_zero_mul (at s j)) (z_zero_mul (sign n (i + j) k))) ∙ sum_zero n)
      ∙ sum_zero n;
}

pub same_zeros : (q n : ℕ) (a b : List ℤ) → Zeros n a → Zeros n b → Same q n a b
same_zeros q n a b x y = record { each = λ k h. rw (x.zeros k h, y.zeros k h) (cong_refl q (pos 0)) }

pub plus_nothing : (q n : ℕ) (a b : List ℤ) → Zeros n b → Same q n (plus n a b) a
plus_nothing q n a b y = record { each = λ k h. let e : at a k +ℤ pos 0 ≡ at a k = omega (arith, lines) in rw (at-plus n a b k h, y.zeros k h, e) (cong_refl q (at a k)) }

-- the phase of two parts, and of one
pub phase_two : (q n : ℕ) (s a b : List ℤ) → Same q n (phase n s a b []) (plus n a (times n b s))
unfolding phase
phase_two q n s a b = plus_nothing q n (plus n a (times n b s)) (times n (times n [] s) s) (times_zeros n (times n [] s) s (times_zeros n [] s (empty_zeros n)))

pub phase_one : (q n : ℕ) (s a : List ℤ) → Same q n (phase n s a [] []) a
phase_one q n s a = same_trans q n (phase n s a [] []) (plus n a (times n [] s)) a (phase_two q n s a []) (plus_nothing q n a (times n [] s) (times_zeros n [] s (empty_zeros n)))
