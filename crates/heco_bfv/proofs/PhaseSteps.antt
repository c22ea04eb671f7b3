-- The steps of decryption.
use Prim.Native.Nat.{ℕ, ◌+◌, ◌*◌, ◌/◌, ◌%◌, ◌^◌, ◌<◌}
use native.Mathlib.Omega.{arith}
use mathlib.Core.Path.{◌≡◌, refl, ap, ◌∙◌}
use mathlib.Core.List.{List, [], map}
use lib.IntN.{ℤ, pos}
use lib.ListN.{length}
use Rattle.std.specs.Prelude.{All}
use Rattle.std.specs.List.{range_with_len}
use Rattle.std.proofs.lemmas.List.{get_or_default}
use Rattle.std.proofs.lemmas.List.FromFn.{fill_by_all, length-map-range_with_len, get_or-map-range_with_len}
use Rattle.heco_nums.specs.declared.preset.Preset.{Preset}
use Rattle.heco_nums.proofs.PresetFacts.{facts}
use Rattle.heco_noise_laws.specs.Noise.{rounded, round_part, phase}
use Rattle.heco_ring.specs.Remainders.{rem, quo, reduced, Same}
use Rattle.heco_ring.specs.Ring.{wholes, plus, times}
use Rattle.heco_ring.specs.Slots.{decode, slot}
use Rattle.heco_ring.proofs.Congruence.{same_refl, same_sym, same_trans, same_plus, same_times}
use Rattle.heco_ring.proofs.Linear.{plus_comm}
use Rattle.heco_ring.proofs.Reduced.{same_wholes, reduced_same, reduced-lt, length-reduced}
use Rattle.heco_ring.proofs.RingLaws.{times_comm}
use Rattle.heco_ring.proofs.SlotLaws.{value_same}
use Rattle.heco_scheme.specs.Ciphertexts.{part}
use Rattle.heco_scheme.specs.Encryption.{decrypted}
use Rattle.heco_scheme.specs.Noise.{q, phase_of}
use Rattle.heco_scheme.proofs.Empty.{phase_two}
use Rattle.heco_slots.specs.Slots.{decoded}
use Rattle.heco_bfv.proofs.SwitchSteps.{same_of}

pub round_is : (t z x y : ℕ) → x ≡ t → y ≡ z → (x * y + 2 ^ 57) / 2 ^ 58 % t ≡ rem t (rounded q t (pos z))
unfolding rounded quo rem
round_is t z x y e f = rw (e, f) refl

two_same : (n : ℕ) (c0 c1 s : List ℤ) (M : List ℕ) → M ≡ reduced q n (times n s c1) → Same q n (plus n (wholes M) c0) (plus n c0 (times n c1 s))
two_same n c0 c1 s M e = rw (plus_comm n c0 (times n c1 s)) (same_plus q n (wholes M) (times n c1 s) c0 c0 (same_of n M (times n c1 s) (e ∙ ap (reduced q n) (times_comm n s c1))) (same_refl q n c0))

pub two_phase : (n : ℕ) (c0 c1 s : List ℤ) (M : List ℕ) → M ≡ reduced q n (times n s c1) → reduced q n (plus n (wholes M) c0) ≡ reduced q n (phase n s c0 c1 [])
two_phase n c0 c1 s M e = reduced_same q n (plus n (wholes M) c0) (phase n s c0 c1 []) (omega arith)
    (same_trans q n (plus n (wholes M) c0) (plus n c0 (times n c1 s)) (phase n s c0 c1 []) (two_same n c0 c1 s M e) (same_sym q n (phase n s c0 c1 []) (plus n c0 (times n c1 s)) (phase_two q n s c0 c1)))

pub three_phase : (n : ℕ) (c0 c1 c2 s : List ℤ) (M Z P Q : List ℕ) → M ≡ reduced q n (times n s c1) → Z ≡ reduced q n (plus n (wholes M) c0) → P ≡ reduced q n (times n s c2) → Q ≡ reduced q n (times n s (wholes P)) →
    reduced q n (plus n (wholes Z) (wholes Q)) ≡ reduced q n (phase n s c0 c1 c2)
unfolding phase
three_phase n c0 c1 c2 s M Z P Q e f g h =
    let p : Same q n (wholes P) (times n c2 s) = same_of n P (times n c2 s) (g ∙ ap (reduced q n) (times_comm n s c2)) in
    let w : Same q n (wholes Q) (times n (wholes P) s) = same_of n Q (times n (wholes P) s) (h ∙ ap (reduced q n) (times_comm n s (wholes P))) in
    reduced_same q n (plus n (wholes Z) (wholes Q)) (plus n (plus n c0 (times n c1 s)) (times n (times n c2 s) s)) (omega arith)
    (same_plus q n (wholes Z) (plus n c0 (times n c1 s)) (wholes Q) (times n (times n c2 s) s)
    (same_trans q n (wholes Z) (plus n (wholes M) c0) (plus n c0 (times n c1 s)) (same_of n Z (plus n (wholes M) c0) f) (two_same n c0 c1 s M e))
    (same_trans q n (wholes Q) (times n (wholes P) s) (times n (times n c2 s) s) w (same_times q n (wholes P) (times n c2 s) s s p (same_refl q n s))))

-- the slots depend on the message modulo t alone
pub decoded_reduced : (p : Preset) (m : List ℕ) → decoded p (reduced p.t p.n (wholes m)) ≡ decoded p m
unfolding decoded decode slot
decoded_reduced p m =
    let a : ℕ → ℕ = λ j. slot p.n p.t p.zeta (wholes (reduced p.t p.n (wholes m))) j in
    let b : ℕ → ℕ = λ j. slot p.n p.t p.zeta (wholes m) j in
    fill_by_all b (map a (range_with_len 0 p.slots)) p.slots 0 (length-map-range_with_len a 0 p.slots) (λ j l.
    get_or-map-range_with_len a 0 p.slots j j 0 (omega (arith, length-map-range_with_len a 0 p.slots)) (omega arith)
    ∙ value_same p.n p.t p.zeta (3 ^ j) (wholes (reduced p.t p.n (wholes m))) (wholes m) (facts p).t_pos (same_wholes p.t p.n (wholes m) (facts p).t_pos))

pub decrypted_made : (p : Preset) (s : List ℤ) (c : List (List ℕ)) (t n : ℕ) (V M : List ℕ) → t ≡ p.t → n ≡ p.n → length V ≡ n → V ≡ reduced q n (phase n s (part c 0) (part c 1) (part c 2)) → M ≡ reduced t (length V) (round_part (length V) q t (wholes V)) → M ≡ decrypted p s c
unfolding decrypted phase_of
decrypted_made p s c t n V M et en el v m =
    let w : V ≡ reduced q p.n (phase p.n s (part c 0) (part c 1) (part c 2)) = rw en at v in
    rw (et, el ∙ en, w) at m

pub reduced_below : (t n : ℕ) (a : List ℤ) → 0 < t → All (λ x. x < t) (reduced t n a)
reduced_below t n a p = λ k d i. rw (get_or_default (reduced t n a) k d 0 i) (reduced-lt t n a k p (omega (arith, i, length-reduced t n a)))

pub decrypted_below : (p : Preset) (s : List ℤ) (c : List (List ℕ)) → All (λ x. x < p.t) (decrypted p s c)
unfolding decrypted
decrypted_below p s c = reduced_below p.t p.n _ (facts p).t_pos
