-- The noise of a product.
use Prim.Native.Nat.{ℕ, ◌+◌, ◌-◌, ◌*◌, ◌/◌, ◌<◌, ◌≤◌, ◌^◌}
use native.Mathlib.Omega.{arith}
use mathlib.Core.Path.{◌≡◌, refl}
use mathlib.Core.Logic.{inl, inr}
use mathlib.Core.List.{List, [], ◌∷◌}
use lib.Dec.{ltb}
use lib.IntN.{ℤ, pos, negsuc, ◌+ℤ◌, ◌-ℤ◌, ◌*ℤ◌, nat_abs}
use lib.ListN.{get_or}
use borrow.Author.Differences.{abs_is}
use Rattle.std.proofs.lemmas.Bool.{cases_Bool, ltb-true, ltb-false}
use Rattle.heco_nums.specs.declared.preset.Preset.{Preset}
use Rattle.heco_nums.proofs.PresetFacts.{facts}
use Rattle.heco_noise_laws.proofs.Gates.{noise_same}
use Rattle.heco_noise_laws.proofs.Product.{mul_noise}
use Rattle.heco_noise_laws.specs.Noise.{phase, NoiseAtMost, round_part}
use Rattle.heco_nums.specs.Arithmetic.{centre_q}
use Rattle.heco_ring.proofs.Congruence.{same_refl, same_sym, same_trans, same_plus, same_times}
use Rattle.heco_ring.proofs.Integers.{lines, z_mul_minus}
use Rattle.heco_ring.proofs.Pairing.{at-table}
use Rattle.heco_ring.proofs.Reduced.{same_wholes}
use Rattle.heco_ring.proofs.Remainders.{cong_refl}
use Rattle.heco_ring.proofs.Wrapping.{at-wholes}
use Rattle.heco_ring.specs.Remainders.{reduced, Cong, Same}
use Rattle.heco_ring.specs.Ring.{at, wholes, plus, times}
use Rattle.heco_noise.specs.Rows as row
use Rattle.heco_nums.specs.MaterialBounds.{IsSparse}
use Rattle.heco_scheme.specs.Gates.{multiplied}
use Rattle.heco_scheme.specs.Noise.{q}
use Rattle.heco_scheme.specs.Rounding.{centred, rounded_all}
use Rattle.heco_scheme.specs.Ciphertexts.{AreTwoParts, part}
use Rattle.heco_slots.specs.Messages.{product}
use Rattle.heco_scheme.specs.Noise.{phase_of, noise}
use Rattle.heco_scheme.proofs.PartLaws.{same_phase, part_past}
use Rattle.heco_scheme.proofs.NoiseLaws.{at_most, noise_of, modulus_pos}
use Rattle.heco_scheme.proofs.Empty.{phase_two}
use Rattle.heco_scheme.proofs.FreshNoise.{weight_sparse}

more_q : (M : ℕ) (c : ℤ) → c -ℤ pos M ≡ c +ℤ pos M *ℤ negsuc 0
more_q M c = rw (z_mul_minus (pos M)) refl

centre_same : (c : ℕ) → Cong q (centre_q c) (pos c)
unfolding centre_q
centre_same c = elim (cases_Bool (ltb c (2 ^ 57))) [
  | inl e ↦ rw e (cong_refl q (pos c))
  | inr e ↦ rw e (record { by = negsuc 0; is = more_q q (pos c) })
]

pub centre_small : (c : ℕ) → c < q → nat_abs (centre_q c) ≤ q / 2
unfolding centre_q
centre_small c h = elim (cases_Bool (ltb c (2 ^ 57))) [
  | inl e ↦ rw e (omega (arith, lines, abs_is, ltb-true c (2 ^ 57) e))
  | inr e ↦ rw e (omega (arith, lines, abs_is, ltb-false c (2 ^ 57) e))
]

centred_same : (p : Preset) (c : List (List ℕ)) (i : ℕ) → Same q p.n (centred p.n (get_or c i [])) (part c i)
unfolding centred part
centred_same p c i = record { each = λ k h. rw (at-table p.n (λ k. centre_q (get_or (get_or c i []) k 0)) k h, at-wholes (get_or c i []) k) (centre_same (get_or (get_or c i []) k 0)) }

centred_small : (p : Preset) (c : List (List ℕ)) (i : ℕ) → AreTwoParts c → (k : ℕ) → k < p.n → nat_abs (at (centred p.n (get_or c i [])) k) ≤ q / 2
unfolding centred
centred_small p c i w k h = rw (at-table p.n (λ k. centre_q (get_or (get_or c i []) k 0)) k h) (centre_small (get_or (get_or c i []) k 0) (w.below i k))

centred_noise : (p : Preset) (s : List ℤ) (c : List (List ℕ)) (m : List ℕ) (E : ℕ) → AreTwoParts c → noise p s c m ≤ E → NoiseAtMost p.n q p.t (plus p.n (centred p.n (get_or c 0 [])) (times p.n (centred p.n (get_or c 1 [])) s)) (wholes m) E
unfolding phase_of
centred_noise p s c m E w h =
    let n : ℕ = p.n in
    let z : List ℤ = plus n (part c 0) (times n (part c 1) s) in
    noise_same n q p.t E (phase_of p s c) (plus n (centred p.n (get_or c 0 [])) (times n (centred p.n (get_or c 1 [])) s)) (wholes m) (wholes m) (modulus_pos p)
    (same_trans q n (plus n (centred p.n (get_or c 0 [])) (times n (centred p.n (get_or c 1 [])) s)) z (phase_of p s c)
    (same_plus q n (centred p.n (get_or c 0 [])) (part c 0) (times n (centred p.n (get_or c 1 [])) s) (times n (part c 1) s) (centred_same p c 0) (same_times q n (centred p.n (get_or c 1 [])) (part c 1) s s (centred_same p c 1) (same_refl q n s)))
    (same_sym q n (phase_of p s c) z (rw (part_past c 2 (omega (arith, w.two))) (phase_two q n s (part c 0) (part c 1)))))
    (same_refl p.t n (wholes m)) (at_most p s c m E h)

pub multiplied_noise : (p : Preset) (s : List ℤ) (c d : List (List ℕ)) (m l : List ℕ) (E F : ℕ) → IsSparse p.n p.h s → AreTwoParts c → AreTwoParts d → 2 * E < q → 2 * F < q → noise p s c m ≤ E → noise p s d l ≤ F →
    noise p s (multiplied p c d) (product p m l) ≤ row.multiplied p.n p.t p.h E F
unfolding multiplied product phase_of part rounded_all round_part
multiplied_noise p s c d m l E F hs wc wd hE hF x y =
    let n : ℕ = p.n in
    let c0 : List ℤ = centred p.n (get_or c 0 []) in
    let c1 : List ℤ = centred p.n (get_or c 1 []) in
    let d0 : List ℤ = centred p.n (get_or d 0 []) in
    let d1 : List ℤ = centred p.n (get_or d 1 []) in
    let y0 : List ℤ = round_part n q p.t (times n c0 d0) in
    let y1 : List ℤ = round_part n q p.t (plus n (times n c0 d1) (times n c1 d0)) in
    let y2 : List ℤ = round_part n q p.t (times n c1 d1) in
    noise_of p s (phase n s y0 y1 y2) (times n (wholes m) (wholes l)) (multiplied p c d) (product p m l) (n * ((p.t * (1 + p.h) + 1) / 2 + 1) * (E + F) + p.t * (1 + p.h + p.h * p.h))
    (same_phase q n s (wholes (reduced q n y0)) (wholes (reduced q n y1)) (wholes (reduced q n y2)) y0 y1 y2 (same_wholes q n y0 (omega arith)) (same_wholes q n y1 (omega arith)) (same_wholes q n y2 (omega arith)))
    (same_wholes p.t n (times n (wholes m) (wholes l)) (facts p).t_pos)
    (mul_noise n q p.t p.h E F s c0 c1 d0 d1 (wholes m) (wholes l) (omega arith) (facts p).t_pos hE hF (weight_sparse p.n p.h s hs) (centred_small p c 0 wc) (centred_small p c 1 wc) (centred_small p d 0 wd) (centred_small p d 1 wd) (centred_noise p s c m E wc x) (centred_noise p s d l F wd y))

-- the three parts, made with the numbers of the same preset
pub multiplied_is : (p r : Preset) (c d : List (List ℕ)) (x0 x1 y0 y1 o0 o1 o2 : List ℕ) → r ≡ p → get_or c 0 [] ≡ x0 → get_or c 1 [] ≡ x1 → get_or d 0 [] ≡ y0 → get_or d 1 [] ≡ y1 →
    o0 ≡ rounded_all r.n r.t (times r.n (centred r.n x0) (centred r.n y0)) →
    o1 ≡ rounded_all r.n r.t (plus r.n (times r.n (centred r.n x0) (centred r.n y1)) (times r.n (centred r.n x1) (centred r.n y0))) →
    o2 ≡ rounded_all r.n r.t (times r.n (centred r.n x1) (centred r.n y1)) → o0 ∷ o1 ∷ o2 ∷ [] ≡ multiplied p c d
unfolding multiplied
multiplied_is p r c d x0 x1 y0 y1 o0 o1 o2 e a0 a1 b0 b1 f g h = rw (← e, a0, a1, b0, b1, f, g, h) refl
