-- There is one preset of a number.
use Rattle.std.proofs.Common.{◌≡◌, ◌≤◌, ◌∙◌, ℕ, refl, sym, ap, subst}
use Rattle.std.proofs.Math.Bridge.{le_prop}
use Rattle.std.proofs.Math.Nat.{ℕ_set}
use Rattle.heco_nums.proofs.PresetCases.{by_preset}
use Rattle.heco_nums.specs.Presets.{degree_of, slots_of, modulus_of, hamming_weight_of, error_of, root_of, inverse_of, IsPresetRow}
use Rattle.heco_nums.specs.declared.preset.Preset.{Preset}
use Rattle.heco_nums.specs.PresetRows.{preset_of, row_number}

-- a row is had in one way
one_row : (id n slots t h b zeta ninv k w l : ℕ) (x y : IsPresetRow id n slots t h b zeta ninv k w l) → x ≡ y
one_row id n slots t h b zeta ninv k w l x y = λ i. (
  le_prop x.0 y.0 i,
  le_prop x.1 y.1 i,
  ℕ_set _ _ x.2 y.2 i,
  ℕ_set _ _ x.3 y.3 i,
  ℕ_set _ _ x.4 y.4 i,
  ℕ_set _ _ x.5 y.5 i,
  ℕ_set _ _ x.6 y.6 i,
  ℕ_set _ _ x.7 y.7 i,
  ℕ_set _ _ x.8 y.8 i,
  ℕ_set _ _ x.9 y.9 i,
  ℕ_set _ _ x.10 y.10 i,
  ℕ_set _ _ x.11 y.11 i,
)

abbrev of_row : (id n slots t h b zeta ninv k w l : ℕ) → IsPresetRow id n slots t h b zeta ninv k w l → Preset
of_row id n slots t h b zeta ninv k w l row = record { id = id; n = n; slots = slots; t = t; k = k; w = w; l = l; h = h; b = b; zeta = zeta; ninv = ninv; row = row }

-- a preset is determined by its numbers
abbrev IsOf : Preset → ℕ → ℕ → ℕ → ℕ → ℕ → ℕ → ℕ → ℕ → ℕ → ℕ → ℕ → Type 0
IsOf p id n slots t h b zeta ninv k w l = (row : IsPresetRow id n slots t h b zeta ninv k w l) → p ≡ of_row id n slots t h b zeta ninv k w l row

by_numbers : (p : Preset) (id n slots t h b zeta ninv k w l : ℕ) → p.id ≡ id → p.n ≡ n → p.slots ≡ slots → p.t ≡ t → p.h ≡ h → p.b ≡ b → p.zeta ≡ zeta → p.ninv ≡ ninv → p.k ≡ k → p.w ≡ w → p.l ≡ l → IsOf p id n slots t h b zeta ninv k w l
by_numbers p id n slots t h b zeta ninv k w l e_id e_n e_slots e_t e_h e_b e_zeta e_ninv e_k e_w e_l =
    subst (λ x. IsOf p x n slots t h b zeta ninv k w l) e_id
    (subst (λ x. IsOf p p.id x slots t h b zeta ninv k w l) e_n
    (subst (λ x. IsOf p p.id p.n x t h b zeta ninv k w l) e_slots
    (subst (λ x. IsOf p p.id p.n p.slots x h b zeta ninv k w l) e_t
    (subst (λ x. IsOf p p.id p.n p.slots p.t x b zeta ninv k w l) e_h
    (subst (λ x. IsOf p p.id p.n p.slots p.t p.h x zeta ninv k w l) e_b
    (subst (λ x. IsOf p p.id p.n p.slots p.t p.h p.b x ninv k w l) e_zeta
    (subst (λ x. IsOf p p.id p.n p.slots p.t p.h p.b p.zeta x k w l) e_ninv
    (subst (λ x. IsOf p p.id p.n p.slots p.t p.h p.b p.zeta p.ninv x w l) e_k
    (subst (λ x. IsOf p p.id p.n p.slots p.t p.h p.b p.zeta p.ninv p.k x l) e_w
    (subst (λ x. IsOf p p.id p.n p.slots p.t p.h p.b p.zeta p.ninv p.k p.w x) e_l
    (λ row. ap (of_row p.id p.n p.slots p.t p.h p.b p.zeta p.ninv p.k p.w p.l) (one_row p.id p.n p.slots p.t p.h p.b p.zeta p.ninv p.k p.w p.l p.row row))))))))))))

pub row_number_is : (id : ℕ) → 1 ≤ id → id ≤ 5 → row_number id ≡ id
row_number_is = by_preset (λ id. row_number id ≡ id) refl refl refl refl refl

pub preset_is : (p : Preset) → p ≡ preset_of p.id
unfolding preset_of
preset_is p =
    let r : p.id ≡ row_number p.id = sym (row_number_is p.id p.row.0 p.row.1) in
    by_numbers p (row_number p.id) (degree_of (row_number p.id)) (slots_of (row_number p.id)) (modulus_of (row_number p.id)) (hamming_weight_of (row_number p.id)) (error_of (row_number p.id)) (root_of (row_number p.id)) (inverse_of (row_number p.id)) 58 2 29
    r (p.row.2 ∙ ap degree_of r) (p.row.3 ∙ ap slots_of r) (p.row.4 ∙ ap modulus_of r) (p.row.5 ∙ ap hamming_weight_of r) (p.row.6 ∙ ap error_of r) (p.row.7 ∙ ap root_of r) (p.row.8 ∙ ap inverse_of r) p.row.9 p.row.10 p.row.11
    _

-- the preset that a number of the same row names
pub preset_at : (p : Preset) (id : ℕ) → p.id ≡ id → p ≡ preset_of id
preset_at p id e = preset_is p ∙ ap preset_of e
