-- The noise of the gates that act on each part.
use Prim.Native.Nat.{ℕ, ◌+◌, ◌-◌, ◌*◌, ◌/◌, ◌<◌, ◌≤◌, max}
use native.Mathlib.Omega.{arith}
use mathlib.Core.Path.{◌≡◌}
use mathlib.Core.Logic.{inl, inr}
use mathlib.Core.Bool.{cond, false}
use mathlib.Core.List.{List, []}
use lib.Dec.{eqb, ltb}
use lib.IntN.{ℤ, pos, ◌+ℤ◌, ◌-ℤ◌, ◌*ℤ◌, nat_abs}
use lib.ListN.{length}
use Rattle.std.proofs.lemmas.Bool.{cases_lt, cases_Bool, ne_eqb}
use Rattle.heco_nums.specs.declared.preset.Preset.{Preset}
use Rattle.heco_nums.proofs.PresetFacts.{facts}
use Rattle.heco_noise_laws.proofs.Gates.{noise_add, noise_neg, noise_scale, scaled_near}
use Rattle.heco_noise_laws.proofs.Near.{near_in}
use Rattle.heco_noise_laws.specs.Noise.{phase, NoiseAtMost}
use Rattle.heco_nums.specs.Arithmetic.{centre_t, scaled}
use Rattle.heco_ring.proofs.Congruence.{same_refl, same_trans, same_plus}
use Rattle.heco_ring.proofs.Integers.{lines, z_mul_one, z_mul_zero}
use Rattle.heco_ring.proofs.Linear.{at-scale}
use Rattle.heco_ring.proofs.Pairing.{at-table}
use Rattle.heco_ring.proofs.Reduced.{same_wholes}
use Rattle.heco_ring.proofs.Remainders.{cong_refl, cong_mul}
use Rattle.heco_ring.specs.Remainders.{reduced, Cong, Same}
use Rattle.heco_ring.specs.Ring.{at, wholes, plus, negate, scale, constant}
use Rattle.heco_noise.specs.Rows as row
use Rattle.heco_scheme.specs.Gates.{added, subtracted, negated, scaled_by, shifted}
use Rattle.heco_scheme.specs.Noise.{q}
use Rattle.heco_scheme.specs.Ciphertexts.{part, parts}
use Rattle.heco_slots.specs.Messages.{sum, difference, opposite, multiple, raised}
use Rattle.heco_scheme.specs.Noise.{phase_of, noise}
use Rattle.heco_scheme.proofs.PartLaws.{length-parts, part-parts, part_past, same_phase, phase_plus, phase_negate, phase_scale}
use Rattle.heco_scheme.proofs.NoiseLaws.{at_most, noise_of, modulus_pos}
use Rattle.heco_scheme.proofs.Empty.{Zeros, empty_zeros, plus_zeros, negate_zeros, scale_zeros, same_zeros, phase_one}

pub part_zeros : (n : ℕ) (c : List (List ℕ)) (i : ℕ) → length c ≤ i → Zeros n (part c i)
part_zeros n c i h = rw (part_past c i h) (empty_zeros n)

part_each : (p : Preset) (m i : ℕ) (f : ℕ → List ℤ) → ((i : ℕ) → m ≤ i → Zeros p.n (f i)) → Same q p.n (part (parts m (λ i. reduced q p.n (f i))) i) (f i)
part_each p m i f h = elim (cases_lt i m) [
  | inl l ↦ rw (part-parts m i (λ i. reduced q p.n (f i)) l) (same_wholes q p.n (f i) (omega arith))
  | inr g ↦ rw (part_past (parts m (λ i. reduced q p.n (f i))) i (omega (arith, length-parts m (λ i. reduced q p.n (f i))))) (same_zeros q p.n [] (f i) (empty_zeros p.n) (h i g))
]

pub phase_each : (p : Preset) (s : List ℤ) (m : ℕ) (f : ℕ → List ℤ) → ((i : ℕ) → m ≤ i → Zeros p.n (f i)) → Same q p.n (phase_of p s (parts m (λ i. reduced q p.n (f i)))) (phase p.n s (f 0) (f 1) (f 2))
unfolding phase_of
phase_each p s m f h =
    let c : List (List ℕ) = parts m (λ i. reduced q p.n (f i)) in
    same_phase q p.n s (part c 0) (part c 1) (part c 2) (f 0) (f 1) (f 2) (part_each p m 0 f h) (part_each p m 1 f h) (part_each p m 2 f h)

pub added_noise : (p : Preset) (s : List ℤ) (a b : List (List ℕ)) (m l : List ℕ) (E F : ℕ) → noise p s a m ≤ E → noise p s b l ≤ F → noise p s (added p a b) (sum p m l) ≤ row.added E F
unfolding added sum phase_of
added_noise p s a b m l E F x y =
    noise_of p s (plus p.n (phase_of p s a) (phase_of p s b)) (plus p.n (wholes m) (wholes l)) (added p a b) (sum p m l) (E + F)
    (rw (← (phase_plus p.n s (part a 0) (part a 1) (part a 2) (part b 0) (part b 1) (part b 2)))
    (phase_each p s (max (length a) (length b)) (λ i. plus p.n (part a i) (part b i)) (λ i g. plus_zeros p.n (part a i) (part b i) (part_zeros p.n a i (omega arith)) (part_zeros p.n b i (omega arith)))))
    (same_wholes p.t p.n (plus p.n (wholes m) (wholes l)) (facts p).t_pos)
    (noise_add p.n q p.t E F (phase_of p s a) (phase_of p s b) (wholes m) (wholes l) (modulus_pos p) (at_most p s a m E x) (at_most p s b l F y))

pub negated_noise : (p : Preset) (s : List ℤ) (a : List (List ℕ)) (m : List ℕ) (E : ℕ) → noise p s a m ≤ E → noise p s (negated p a) (opposite p m) ≤ E
unfolding negated opposite phase_of
negated_noise p s a m E x =
    noise_of p s (negate p.n (phase_of p s a)) (negate p.n (wholes m)) (negated p a) (opposite p m) E
    (rw (← (phase_negate p.n s (part a 0) (part a 1) (part a 2)))
    (phase_each p s (length a) (λ i. negate p.n (part a i)) (λ i g. negate_zeros p.n (part a i) (part_zeros p.n a i g))))
    (same_wholes p.t p.n (negate p.n (wholes m)) (facts p).t_pos)
    (noise_neg p.n q p.t E (phase_of p s a) (wholes m) (modulus_pos p) (at_most p s a m E x))

pub subtracted_noise : (p : Preset) (s : List ℤ) (a b : List (List ℕ)) (m l : List ℕ) (E F : ℕ) → noise p s a m ≤ E → noise p s b l ≤ F → noise p s (subtracted p a b) (difference p m l) ≤ row.added E F
unfolding subtracted difference phase_of
subtracted_noise p s a b m l E F x y =
    let nb : List ℤ = negate p.n (phase_of p s b) in
    noise_of p s (plus p.n (phase_of p s a) (negate p.n (phase_of p s b))) (plus p.n (wholes m) (negate p.n (wholes l))) (subtracted p a b) (difference p m l) (E + F)
    (rw (← (phase_negate p.n s (part b 0) (part b 1) (part b 2)), ← (phase_plus p.n s (part a 0) (part a 1) (part a 2) (negate p.n (part b 0)) (negate p.n (part b 1)) (negate p.n (part b 2))))
    (phase_each p s (max (length a) (length b)) (λ i. plus p.n (part a i) (negate p.n (part b i))) (λ i g. plus_zeros p.n (part a i) (negate p.n (part b i)) (part_zeros p.n a i (omega arith)) (negate_zeros p.n (part b i) (part_zeros p.n b i (omega arith))))))
    (same_wholes p.t p.n (plus p.n (wholes m) (negate p.n (wholes l))) (facts p).t_pos)
    (noise_add p.n q p.t E F (phase_of p s a) (negate p.n (phase_of p s b)) (wholes m) (negate p.n (wholes l)) (modulus_pos p) (at_most p s a m E x) (noise_neg p.n q p.t F (phase_of p s b) (wholes l) (modulus_pos p) (at_most p s b l F y)))

-- the centred constant is the constant modulo t
less_t : (t : ℕ) (c : ℤ) → c ≡ c -ℤ pos t +ℤ pos t *ℤ pos 1
less_t t c = rw (z_mul_one (pos t)) (omega (arith, lines))

pub centre_same : (p : Preset) (c : ℕ) → Cong p.t (pos c) (centre_t p.t c)
unfolding centre_t
centre_same p c = elim (cases_Bool (ltb (2 * c) p.t)) [
  | inl e ↦ rw e (cong_refl p.t (pos c))
  | inr e ↦ rw e (record { by = pos 1; is = less_t p.t (pos c) })
]

pub scaled_noise : (p : Preset) (s : List ℤ) (c : ℕ) (a : List (List ℕ)) (m : List ℕ) (E : ℕ) → noise p s a m ≤ E → noise p s (scaled_by p c a) (multiple p c m) ≤ row.scaled_by p.t c E
unfolding scaled_by multiple phase_of
scaled_noise p s c a m E x =
    let d : ℤ = centre_t p.t c in
    noise_of p s (scale p.n d (phase_of p s a)) (scale p.n d (wholes m)) (scaled_by p c a) (multiple p c m) (nat_abs d * E)
    (rw (← (phase_scale p.n d s (part a 0) (part a 1) (part a 2)))
    (phase_each p s (length a) (λ i. scale p.n (centre_t p.t c) (part a i)) (λ i g. scale_zeros p.n (centre_t p.t c) (part a i) (part_zeros p.n a i g))))
    (same_trans p.t p.n (wholes (multiple p c m)) (scale p.n (pos c) (wholes m)) (scale p.n d (wholes m)) (same_wholes p.t p.n (scale p.n (pos c) (wholes m)) (facts p).t_pos)
    (record { each = λ k h. rw (at-scale p.n (pos c) (wholes m) k h, at-scale p.n d (wholes m) k h) (cong_mul p.t (pos c) d (at (wholes m) k) (at (wholes m) k) (centre_same p c) (cong_refl p.t (at (wholes m) k))) }))
    (noise_scale p.n q p.t E d (phase_of p s a) (wholes m) (modulus_pos p) (at_most p s a m E x))

-- ---- a constant
at-constant : (n k : ℕ) (c : ℤ) → k < n → at (constant n c) k ≡ cond (eqb k 0) c (pos 0)
unfolding constant
at-constant n k c h = at-table n (λ k. cond (eqb k 0) c (pos 0)) k h

nothing_close : (t q b : ℕ) → nat_abs (pos t *ℤ pos 0 -ℤ pos q *ℤ pos 0) ≤ b
nothing_close t q b = rw (z_mul_zero (pos t), z_mul_zero (pos q)) (omega arith)

constant_noise : (p : Preset) (c : ℕ) → NoiseAtMost p.n q p.t (constant p.n (pos (scaled p.t c))) (constant p.n (pos c)) ((p.t - 1) / 2)
unfolding scaled
constant_noise p c = record {
  within = λ k h. rw (at-constant p.n k (pos (scaled p.t c)) h, at-constant p.n k (pos c) h)
      (near_in (q * p.t) (pos p.t *ℤ cond (eqb k 0) (pos (scaled p.t c)) (pos 0) -ℤ pos q *ℤ cond (eqb k 0) (pos c) (pos 0)) ((p.t - 1) / 2) (modulus_pos p)
      (record { e = pos p.t *ℤ cond (eqb k 0) (pos (scaled p.t c)) (pos 0) -ℤ pos q *ℤ cond (eqb k 0) (pos c) (pos 0); small = bound k; same = cong_refl (q * p.t) _ }));
}
  where
    bound : (k : ℕ) → nat_abs (pos p.t *ℤ cond (eqb k 0) (pos (scaled p.t c)) (pos 0) -ℤ pos q *ℤ cond (eqb k 0) (pos c) (pos 0)) ≤ (p.t - 1) / 2
    bound k = elim (cases_Bool (eqb k 0)) [
      | inl e ↦ rw e (scaled_near q p.t c (facts p).t_pos (facts p).t_odd)
      | inr e ↦ rw e (nothing_close p.t q ((p.t - 1) / 2))
    ]

pub shifted_noise : (p : Preset) (s : List ℤ) (c : ℕ) (a : List (List ℕ)) (m : List ℕ) (E : ℕ) → 0 < length a → noise p s a m ≤ E → noise p s (shifted p c a) (raised p c m) ≤ row.shifted p.t E
unfolding shifted raised phase_of
shifted_noise p s c a m E la x =
    let K : List ℤ = constant p.n (pos (scaled p.t c)) in
    noise_of p s (plus p.n (phase_of p s a) K) (plus p.n (wholes m) (constant p.n (pos c))) (shifted p c a) (raised p c m) (E + (p.t - 1) / 2)
    (same_trans q p.n (phase_of p s (shifted p c a)) (phase p.n s (plus p.n (part a 0) K) (plus p.n (part a 1) []) (plus p.n (part a 2) [])) (plus p.n (phase_of p s a) K)
    (phase_each p s (length a) (λ i. plus p.n (part a i) (cond (eqb i 0) K [])) (λ i g. let ne : eqb i 0 ≡ false = ne_eqb i 0 (omega arith) in rw ne (plus_zeros p.n (part a i) [] (part_zeros p.n a i g) (empty_zeros p.n))))
    (rw (phase_plus p.n s (part a 0) (part a 1) (part a 2) K [] [])
    (same_plus q p.n (phase_of p s a) (phase_of p s a) (phase p.n s K [] []) K (same_refl q p.n (phase_of p s a)) (phase_one q p.n s K))))
    (same_wholes p.t p.n (plus p.n (wholes m) (constant p.n (pos c))) (facts p).t_pos)
    (noise_add p.n q p.t E ((p.t - 1) / 2) (phase_of p s a) K (wholes m) (constant p.n (pos c)) (modulus_pos p) (at_most p s a m E x) (constant_noise p c))
