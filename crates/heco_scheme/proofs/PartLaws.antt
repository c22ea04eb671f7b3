-- The parts of a ciphertext made by parts, and phases that agree.
use Prim.Native.Nat.{ℕ, ◌<◌, ◌≤◌}
use native.Mathlib.Omega.{arith}
use mathlib.Core.Path.{◌≡◌, refl, ap}
use mathlib.Core.List.{List, [], map}
use lib.IntN.{ℤ, pos}
use lib.ListN.{length}
use Rattle.std.proofs.lemmas.List.{get_or_past}
use Rattle.std.proofs.lemmas.List.FromFn.{get_or-map-range_with_len, length-map-range_with_len}
use Rattle.heco_noise_laws.specs.Noise.{phase}
use Rattle.heco_ring.proofs.Congruence.{same_refl, same_plus, same_times}
use Rattle.heco_ring.proofs.Linear.{products, sums, negations, times_plus}
use Rattle.heco_ring.proofs.RingLaws.{times_assoc}
use Rattle.heco_ring.specs.Remainders.{Same}
use Rattle.heco_ring.specs.Ring.{wholes, plus, times, negate, scale}
use Rattle.heco_scheme.specs.Ciphertexts.{part, parts}

pub length-parts : (m : ℕ) (f : ℕ → List ℕ) → length (parts m f) ≡ m
unfolding parts
length-parts m f = length-map-range_with_len f 0 m

pub part-parts : (m i : ℕ) (f : ℕ → List ℕ) → i < m → part (parts m f) i ≡ wholes (f i)
unfolding part parts
part-parts m i f h = ap wholes (get_or-map-range_with_len f 0 m i i [] h (omega arith))

pub part_past : (c : List (List ℕ)) (i : ℕ) → length c ≤ i → part c i ≡ []
unfolding part wholes
part_past c i h = ap (map pos) (get_or_past c i [] h)

pub same_phase : (q n : ℕ) (s a0 a1 a2 b0 b1 b2 : List ℤ) → Same q n a0 b0 → Same q n a1 b1 → Same q n a2 b2 → Same q n (phase n s a0 a1 a2) (phase n s b0 b1 b2)
unfolding phase
same_phase q n s a0 a1 a2 b0 b1 b2 x y z =
    same_plus q n (plus n a0 (times n a1 s)) (plus n b0 (times n b1 s)) (times n (times n a2 s) s) (times n (times n b2 s) s)
    (same_plus q n a0 b0 (times n a1 s) (times n b1 s) x (same_times q n a1 b1 s s y (same_refl q n s)))
    (same_times q n (times n a2 s) (times n b2 s) s s (same_times q n a2 b2 s s z (same_refl q n s)) (same_refl q n s))

-- ---- the phase is linear
pub phase_plus : (n : ℕ) (s a0 a1 a2 b0 b1 b2 : List ℤ) → phase n s (plus n a0 b0) (plus n a1 b1) (plus n a2 b2) ≡ plus n (phase n s a0 a1 a2) (phase n s b0 b1 b2)
unfolding phase
phase_plus n s a0 a1 a2 b0 b1 b2 = simp (products, sums)

pub phase_negate : (n : ℕ) (s a0 a1 a2 : List ℤ) → phase n s (negate n a0) (negate n a1) (negate n a2) ≡ negate n (phase n s a0 a1 a2)
unfolding phase
phase_negate n s a0 a1 a2 = simp negations

pub phase_scale : (n : ℕ) (c : ℤ) (s a0 a1 a2 : List ℤ) → phase n s (scale n c a0) (scale n c a1) (scale n c a2) ≡ scale n c (phase n s a0 a1 a2)
unfolding phase
phase_scale n c s a0 a1 a2 = simp products

pub phase_times : (n : ℕ) (w s a0 a1 a2 : List ℤ) → phase n s (times n w a0) (times n w a1) (times n w a2) ≡ times n w (phase n s a0 a1 a2)
unfolding phase
phase_times n w s a0 a1 a2 =
    rw (times_plus n w (plus n a0 (times n a1 s)) (times n (times n a2 s) s), times_plus n w a0 (times n a1 s), times_assoc n w a1 s, times_assoc n w a2 s, times_assoc n w (times n a2 s) s) refl
