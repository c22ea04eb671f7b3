-- The steps of encryption.
use Prim.Native.Nat.{ℕ, ◌-◌, ◌*◌, ◌^◌, ◌<◌}
use native.Mathlib.Omega.{arith}
use mathlib.Core.Path.{◌≡◌, refl, ap, ◌∙◌}
use mathlib.Core.List.{List, [], ◌∷◌}
use lib.IntN.{ℤ, pos, ◌*ℤ◌}
use lib.ListN.{get_or}
use Rattle.std.specs.Prelude.{All}
use Rattle.std.proofs.lemmas.List.FromFn.{get_or-map-range_with_len, length-map-range_with_len}
use Rattle.heco_nums.specs.Arithmetic.{scaled}
use Rattle.heco_nums.specs.declared.preset.Preset.{Preset}
use Rattle.heco_nums.proofs.PresetFacts.{facts}
use Rattle.heco_ring.specs.Remainders.{reduced}
use Rattle.heco_ring.specs.Ring.{sum_z, table, wholes, plus, times}
use Rattle.heco_ring.specs.Slots.{encode, encode_at}
use Rattle.heco_ring.proofs.Congruence.{same_refl, same_plus}
use Rattle.heco_ring.proofs.Pairing.{at-table}
use Rattle.heco_ring.proofs.Reduced.{reduced_same}
use Rattle.heco_ring.proofs.Remainders.{cong_refl, rem-lt}
use Rattle.heco_ring.proofs.RingLaws.{times_comm}
use Rattle.heco_ring.proofs.Wrapping.{at-wholes}
use Rattle.heco_scheme.specs.Encryption.{scaled_all, encrypted}
use Rattle.heco_scheme.specs.Noise.{q}
use Rattle.heco_slots.specs.Slots.{encoded}
use Rattle.heco_bfv.proofs.SwitchSteps.{same_of}

pub masked_is : (n : ℕ) (K u e : List ℤ) (O X : List ℕ) → O ≡ reduced q n (times n u K) → X ≡ reduced q n e → reduced q n (plus n (wholes O) (wholes X)) ≡ reduced q n (plus n (times n K u) e)
masked_is n K u e O X a b = reduced_same q n (plus n (wholes O) (wholes X)) (plus n (times n K u) e) (omega arith)
    (same_plus q n (wholes O) (times n K u) (wholes X) e (same_of n O (times n K u) (a ∙ ap (reduced q n) (times_comm n u K))) (same_of n X e b))

pub add_scaled_is : (p : Preset) (m W O : List ℕ) → ((k : ℕ) → k < p.n → get_or W k 0 ≡ scaled p.t (get_or m k 0)) → reduced q p.n (plus p.n (wholes O) (wholes W)) ≡ reduced q p.n (plus p.n (wholes O) (scaled_all p m))
unfolding scaled_all
add_scaled_is p m W O h =
    let D : List ℤ = table p.n (λ k. pos (scaled p.t (get_or m k 0))) in
    reduced_same q p.n (plus p.n (wholes O) (wholes W)) (plus p.n (wholes O) D) (omega arith)
    (same_plus q p.n (wholes O) (wholes O) (wholes W) D (same_refl q p.n (wholes O))
    (record { each = λ k l. rw (at-wholes W k, at-table p.n (λ k. pos (scaled p.t (get_or m k 0))) k l, h k l) (cong_refl q (pos (scaled p.t (get_or m k 0)))) }))

pub encrypted_is : (p : Preset) (p0 p1 : List ℕ) (u e1 e2 : List ℤ) (m M C D : List ℕ) → M ≡ reduced q p.n (plus p.n (times p.n (wholes p0) u) e1) → C ≡ reduced q p.n (plus p.n (wholes M) (scaled_all p m)) →
    D ≡ reduced q p.n (plus p.n (times p.n (wholes p1) u) e2) → C ∷ D ∷ [] ≡ encrypted p p0 p1 u e1 e2 m
unfolding encrypted
encrypted_is p p0 p1 u e1 e2 m M C D a b c =
    let n : ℕ = p.n in
    let X : List ℤ = plus n (times n (wholes p0) u) e1 in
    let d : C ≡ reduced q n (plus n X (scaled_all p m)) = b ∙ reduced_same q n (plus n (wholes M) (scaled_all p m)) (plus n X (scaled_all p m)) (omega arith) (same_plus q n (wholes M) X (scaled_all p m) (scaled_all p m) (same_of n M X a) (same_refl q n (scaled_all p m))) in
    rw (d, c) refl

-- what is encoded is below t
pub encoded_below : (p : Preset) (v : List ℕ) → All (λ x. x < p.t) (encoded p v)
unfolding encoded encode encode_at
encoded_below p v = λ k d h.
    let l : k < p.n = omega (arith, h, length-map-range_with_len (λ k. encode_at p.n p.t p.zeta p.ninv p.slots v k) 0 p.n) in
    rw (get_or-map-range_with_len (λ k. encode_at p.n p.t p.zeta p.ninv p.slots v k) 0 p.n k k d l (omega arith))
    (rem-lt p.t (pos p.ninv *ℤ sum_z p.slots (λ j. pos (get_or v j 0) *ℤ pos (p.zeta ^ ((2 * p.n - 1) * (k * 3 ^ j))))) (facts p).t_pos)
