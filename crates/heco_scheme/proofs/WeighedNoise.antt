-- The noise of a ciphertext that a plain vector weighs.
use Prim.Native.Nat.{ℕ, ◌*◌, ◌≤◌}
use native.Mathlib.Omega.{arith}
use mathlib.Core.Path.{◌≡◌, ◌∙◌}
use mathlib.Core.List.{List, []}
use lib.IntN.{ℤ}
use lib.ListN.{length}
use Rattle.std.proofs.lemmas.List.FromFn.{get_or-map-range_with_len, fill_by_all}
use Rattle.heco_nums.specs.Arithmetic.{centre_t}
use Rattle.heco_nums.specs.declared.preset.Preset.{Preset}
use Rattle.heco_nums.proofs.PresetFacts.{facts}
use Rattle.heco_noise.specs.Rows as row
use Rattle.heco_noise_laws.proofs.Weighing.{noise_weigh}
use Rattle.heco_ring.proofs.Congruence.{same_refl, same_trans, same_times}
use Rattle.heco_ring.proofs.Pairing.{at-table}
use Rattle.heco_ring.proofs.Reduced.{reduced_same, same_wholes}
use Rattle.heco_ring.proofs.RingLaws.{times_comm}
use Rattle.heco_ring.proofs.Wrapping.{at-wholes}
use Rattle.heco_ring.specs.Remainders.{reduced, Same}
use Rattle.heco_ring.specs.Ring.{wholes, times}
use Rattle.heco_ring.specs.Sizes.{weight}
use Rattle.heco_slots.specs.Messages.{product, weighed as weighed_message}
use Rattle.heco_slots.specs.Rows.{encode_two_at, encoded_two_at, encoded_two}
use Rattle.heco_slots.specs.Weighing.{weigher_by, vector_weight_by, weigher, vector_weight}
use Rattle.heco_scheme.specs.Ciphertexts.{part, parts}
use Rattle.heco_scheme.specs.Gates.{times_each, weighed, weigher_words}
use Rattle.heco_scheme.specs.Noise.{q, phase_of, noise}
use Rattle.heco_scheme.proofs.Empty.{Zeros, times_zeros}
use Rattle.heco_scheme.proofs.LinearNoise.{part_zeros, phase_each, centre_same}
use Rattle.heco_scheme.proofs.NoiseLaws.{at_most, noise_of, modulus_pos}
use Rattle.heco_scheme.proofs.PartLaws.{length-parts, phase_times}

-- the polynomial that v weighs by is the plaintext with v in both rows, modulo t
same_weigher : (p : Preset) (v : List ℕ) → Same p.t p.n (wholes (encoded_two p v v)) (weigher p v)
unfolding encoded_two encoded_two_at weigher_by
same_weigher p v = record {
  each = λ k h.
      rw (at-wholes (encoded_two p v v) k, get_or-map-range_with_len (encoded_two_at p v v) 0 p.n k k 0 h (omega arith), at-table p.n (λ k. centre_t p.t (encode_two_at p.n p.slots p.t p.zeta p.ninv v v k)) k h)
      (centre_same p (encode_two_at p.n p.slots p.t p.zeta p.ninv v v k));
}

product_zeros : (n : ℕ) (w a : List ℤ) → Zeros n a → Zeros n (times n w a)
product_zeros n w a z = rw (times_comm n w a) (times_zeros n a w z)

weighed_phase : (p : Preset) (s w : List ℤ) (a : List (List ℕ)) → Same q p.n (phase_of p s (times_each p w a)) (times p.n w (phase_of p s a))
unfolding times_each phase_of
weighed_phase p s w a =
    rw (← (phase_times p.n w s (part a 0) (part a 1) (part a 2)))
    (phase_each p s (length a) (λ i. times p.n w (part a i)) (λ i g. product_zeros p.n w (part a i) (part_zeros p.n a i g)))

weighed_same : (p : Preset) (v m : List ℕ) → Same p.t p.n (wholes (weighed_message p v m)) (times p.n (weigher p v) (wholes m))
unfolding weighed_message product
weighed_same p v m =
    same_trans p.t p.n (wholes (weighed_message p v m)) (times p.n (wholes (encoded_two p v v)) (wholes m)) (times p.n (weigher p v) (wholes m))
    (same_wholes p.t p.n (times p.n (wholes (encoded_two p v v)) (wholes m)) (facts p).t_pos)
    (same_times p.t p.n (wholes (encoded_two p v v)) (weigher p v) (wholes m) (wholes m) (same_weigher p v) (same_refl p.t p.n (wholes m)))

pub weighed_noise : (p : Preset) (s : List ℤ) (v : List ℕ) (a : List (List ℕ)) (m : List ℕ) (E : ℕ) → noise p s a m ≤ E → noise p s (weighed p v a) (weighed_message p v m) ≤ row.weighed (vector_weight p v) E
unfolding weighed vector_weight_by
weighed_noise p s v a m E x =
    noise_of p s (times p.n (weigher p v) (phase_of p s a)) (times p.n (weigher p v) (wholes m)) (times_each p (weigher p v) a) (weighed_message p v m) (weight p.n (weigher p v) * E)
    (weighed_phase p s (weigher p v) a)
    (weighed_same p v m)
    (noise_weigh p.n q p.t E (weigher p v) (phase_of p s a) (wholes m) (modulus_pos p) (at_most p s a m E x))

-- the polynomial may be taken modulo q
same_part : (p : Preset) (v : List ℕ) (x : List ℤ) → reduced q p.n (times p.n (wholes (weigher_words p v)) x) ≡ reduced q p.n (times p.n (weigher p v) x)
unfolding weigher_words
same_part p v x =
    reduced_same q p.n (times p.n (wholes (weigher_words p v)) x) (times p.n (weigher p v) x) (omega arith)
    (same_times q p.n (wholes (weigher_words p v)) (weigher p v) x x (same_wholes q p.n (weigher p v) (omega arith)) (same_refl q p.n x))

pub weighed_by_words : (p : Preset) (v : List ℕ) (a : List (List ℕ)) → times_each p (wholes (weigher_words p v)) a ≡ weighed p v a
unfolding weighed times_each parts
weighed_by_words p v a =
    let g : ℕ → List ℕ = λ i. reduced q p.n (times p.n (wholes (weigher_words p v)) (part a i)) in
    fill_by_all (λ i. reduced q p.n (times p.n (weigher p v) (part a i))) (parts (length a) g) (length a) [] (length-parts (length a) g) (λ k h.
    get_or-map-range_with_len g 0 (length a) k k [] h (omega arith) ∙ same_part p v (part a k))
