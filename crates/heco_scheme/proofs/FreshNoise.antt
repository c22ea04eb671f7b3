-- The noise of a fresh encryption, and what decryption gives.
use Prim.Native.Nat.{ℕ, zero, suc, ◌+◌, ◌-◌, ◌*◌, ◌/◌, ◌<◌, ◌≤◌}
use native.Mathlib.Omega.{arith}
use mathlib.Core.Path.{◌≡◌, ap, ◌∙◌}
use mathlib.Core.Logic.{inl, inr}
use mathlib.Core.Bool.{true, false}
use mathlib.Core.List.{List, []}
use lib.Dec.{eqb}
use lib.IntN.{ℤ, pos, ◌-ℤ◌, ◌*ℤ◌, nat_abs}
use lib.ListN.{length, get_or}
use Rattle.std.proofs.lemmas.Bool.{cases_Bool, eqb-true}
use Rattle.heco_nums.specs.declared.preset.Preset.{Preset}
use Rattle.heco_nums.proofs.PresetFacts.{facts}
use Rattle.heco_noise_laws.proofs.Decryption.{decrypt_is}
use Rattle.heco_noise_laws.proofs.Gates.{noise_fresh, noise_same, scaled_near}
use Rattle.heco_noise_laws.specs.Noise.{phase, NoiseAtMost, rounded}
use Rattle.heco_nums.specs.Arithmetic.{scaled}
use Rattle.heco_ring.proofs.Congruence.{same_refl, same_trans, same_plus, same_times}
use Rattle.heco_ring.proofs.Pairing.{at-table}
use Rattle.heco_ring.proofs.Reduced.{same_wholes, length-reduced, at-reduced, filled}
use Rattle.heco_ring.proofs.Wrapping.{at-wholes}
use Rattle.heco_ring.specs.Remainders.{reduced, Same}
use Rattle.heco_ring.specs.Ring.{at, table, wholes, plus, times, negate}
use Rattle.heco_ring.specs.Sizes.{sum_n, weight}
use Rattle.heco_noise.specs.Rows.{fresh}
use Rattle.heco_nums.specs.MaterialBounds.{IsSparse, AreErrors, is_used}
use Rattle.std.specs.Prelude.{count_by, not, take}
use Rattle.std.proofs.lemmas.List.{take_all}
use Rattle.std.proofs.lemmas.List.Elements.{All-get_or}
use Rattle.std.proofs.lemmas.List.Sums.{count_by_more_no, count_by_more_yes}
use Rattle.heco_noise_laws.specs.Noise.{round_part}
use Rattle.heco_scheme.specs.Encryption.{scaled_all, encrypted, decrypted}
use Rattle.heco_scheme.specs.Keys.{IsPublicKey, key_part}
use Rattle.heco_scheme.specs.Noise.{q}
use Rattle.heco_scheme.specs.Ciphertexts.{part}
use Rattle.heco_scheme.specs.Noise.{phase_of, noise}
use Rattle.heco_scheme.proofs.PartLaws.{same_phase}
use Rattle.heco_scheme.proofs.NoiseLaws.{at_most, noise_of, modulus_pos}
use Rattle.heco_scheme.proofs.Empty.{phase_two}

-- ---- few places that are not 0
sparse_at : (n h : ℕ) (s : List ℤ) → IsSparse n h s → (i : ℕ) → i < n → nat_abs (at s i) ≤ 1
unfolding at
sparse_at n h s x i l = All-get_or (λ z. nat_abs z ≤ 1) s i (pos 0) (omega (arith, x.long)) x.small

pub error_at : (n b : ℕ) (e : List ℤ) → AreErrors n b e → (i : ℕ) → i < n → nat_abs (at e i) ≤ b
unfolding at
error_at n b e x i l = All-get_or (λ z. nat_abs z ≤ b) e i (pos 0) (omega (arith, x.long)) x.small

used_covers : (n h : ℕ) (s : List ℤ) → IsSparse n h s → (m : ℕ) → m ≤ n → weight m s ≤ count_by is_used (take m s)
unfolding weight sum_n at
used_covers n h s x zero l = omega arith
used_covers n h s x (suc m) l =
    let r : weight m s ≤ count_by is_used (take m s) = used_covers n h s x m (omega arith) in
    let e : suc m ≡ m + 1 = omega arith in
    let one : nat_abs (get_or s m (pos 0)) ≤ 1 = sparse_at n h s x m (omega arith) in
    let ml : m < length s = omega (arith, x.long) in
    elim (cases_Bool (eqb (nat_abs (get_or s m (pos 0))) 0)) [
      | inl z ↦ (let u : is_used (get_or s m (pos 0)) ≡ false = ap not z in
          let c = count_by_more_no is_used s m (pos 0) ml u in
          rw (e, c) (omega (arith, r, eqb-true (nat_abs (get_or s m (pos 0))) 0 z)))
      | inr z ↦ (let u : is_used (get_or s m (pos 0)) ≡ true = ap not z in
          let c = count_by_more_yes is_used s m (pos 0) ml u in
          rw (e, c) (omega (arith, r, one)))
    ]

pub weight_sparse : (n h : ℕ) (s : List ℤ) → IsSparse n h s → weight n s ≤ h
weight_sparse n h s x =
    let c : weight n s ≤ count_by is_used s = rw (take_all n s (omega (arith, x.long))) at (used_covers n h s x n (omega arith)) in
    omega (arith, c, x.few)

-- ---- a fresh encryption
scaled_close : (p : Preset) (m : List ℕ) (i : ℕ) → i < p.n → nat_abs (pos p.t *ℤ at (scaled_all p m) i -ℤ pos q *ℤ at (wholes m) i) ≤ (p.t - 1) / 2
unfolding scaled_all scaled
scaled_close p m i h = rw (at-table p.n (λ k. pos (scaled p.t (get_or m k 0))) i h, at-wholes m i) (scaled_near q p.t (get_or m i 0) (facts p).t_pos (facts p).t_odd)

pub encrypted_noise : (p : Preset) (s : List ℤ) (p0 p1 : List ℕ) (u e1 e2 : List ℤ) (m : List ℕ) → IsSparse p.n p.h s → IsPublicKey p.n p.b s p0 p1 → IsSparse p.n p.h u → AreErrors p.n p.b e1 → AreErrors p.n p.b e2 →
    noise p s (encrypted p p0 p1 u e1 e2 m) m ≤ fresh p.t p.h p.b
unfolding encrypted key_part phase_of part wholes
encrypted_noise p s p0 p1 u e1 e2 m hs hp hu h1 h2 =
    let n : ℕ = p.n in
    let D : List ℤ = scaled_all p m in
    let K : List ℤ = negate n (plus n (times n (wholes p1) s) hp.error) in
    let c0 : List ℤ = plus n (plus n (times n K u) e1) D in
    let c1 : List ℤ = plus n (times n (wholes p1) u) e2 in
    let k : Same q n (wholes p0) K = rw (hp.first) (same_wholes q n K (omega arith)) in
    let x0 : List ℤ = plus n (plus n (times n (wholes p0) u) e1) D in
    noise_of p s (plus n c0 (times n c1 s)) (wholes m) (encrypted p p0 p1 u e1 e2 m) m ((p.t - 1) / 2 + p.t * p.b * (2 * p.h + 1))
    (same_trans q n (phase_of p s (encrypted p p0 p1 u e1 e2 m)) (phase n s c0 c1 []) (plus n c0 (times n c1 s))
    (same_phase q n s (wholes (reduced q n x0)) (wholes (reduced q n c1)) [] c0 c1 []
    (same_trans q n (wholes (reduced q n x0)) x0 c0 (same_wholes q n x0 (omega arith))
    (same_plus q n (plus n (times n (wholes p0) u) e1) (plus n (times n K u) e1) D D
    (same_plus q n (times n (wholes p0) u) (times n K u) e1 e1 (same_times q n (wholes p0) K u u k (same_refl q n u)) (same_refl q n e1)) (same_refl q n D)))
    (same_wholes q n c1 (omega arith)) (same_refl q n []))
    (phase_two q n s c0 c1))
    (same_refl p.t n (wholes m))
    (noise_fresh n q p.t p.h p.b s (wholes p1) hp.error u e1 e2 D (wholes m) (modulus_pos p) (weight_sparse p.n p.h s hs) (weight_sparse p.n p.h u hu) (error_at p.n p.b hp.error hp.small) (error_at p.n p.b e1 h1) (error_at p.n p.b e2 h2) (scaled_close p m))

-- ---- decryption
-- where the noise does not pass, the message comes back
pub decrypted_is : (p : Preset) (s : List ℤ) (c : List (List ℕ)) (m : List ℕ) (E : ℕ) → 2 * E < q → noise p s c m ≤ E → decrypted p s c ≡ reduced p.t p.n (wholes m)
unfolding decrypted phase_of round_part
decrypted_is p s c m E hE h =
    let z : List ℕ = reduced q p.n (phase_of p s c) in
    let N : NoiseAtMost p.n q p.t (wholes z) (wholes m) E = noise_same p.n q p.t E (phase_of p s c) (wholes z) (wholes m) (wholes m) (modulus_pos p) (same_wholes q p.n (phase_of p s c) (omega arith)) (same_refl p.t p.n (wholes m)) (at_most p s c m E h) in
    filled p.t p.n (wholes m) (decrypted p s c) (length-reduced p.t p.n (table p.n (λ k. rounded q p.t (at (wholes z) k)))) (λ k l.
    at-reduced p.t p.n (table p.n (λ k. rounded q p.t (at (wholes z) k))) k l
    ∙ rw (at-table p.n (λ k. rounded q p.t (at (wholes z) k)) k l)
    (decrypt_is q p.t E (at (wholes z) k) (at (wholes m) k) (omega arith) (facts p).t_pos hE (N.within k l)))
