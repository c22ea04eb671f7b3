-- Items that were read from lists, and pairs by their parts.
use Rattle.std.proofs.Common.{◌≡◌, ℕ, List, Some, sym, ap, subst, ◌∙◌}
use Rattle.std.specs.Prelude.{ℤ, slice_get}
use Rattle.std.specs.List.{All}
use Rattle.std.proofs.lemmas.Option.{get_or_from_slice_get, slice_get_within}
use Rattle.heco_material.specs.declared.words.SwitchRow.{SwitchRow}
use Rattle.heco_scheme.specs.Keys.{switch_part}
use Rattle.heco_keys.specs.Made.{pair_of}

-- what each item is, the one that was read is
pub read_is : {A : Type 0} (P : A → Type 0) (xs : List A) (i : ℕ) (x : A) → All P xs → slice_get xs i ≡ Some x → P x
read_is P xs i x all e = subst P (get_or_from_slice_get xs i x x e) (all i x (slice_get_within xs i x e))

pair_eq : {A B : Type 0} (x y : A × B) → x.0 ≡ y.0 → x.1 ≡ y.1 → x ≡ y
pair_eq {A} {B} x y p q =
    let first : A → A × B = λ a. (a, x.1) in
    let second : B → A × B = λ b. (y.0, b) in
    ap first p ∙ ap second q

pub pair_is : (n i : ℕ) (s t : List ℤ) (x : List ℕ × List ℕ) (r g : SwitchRow) → x.0 ≡ switch_part n s t i r.a r.e → x.1 ≡ r.a → g ≡ r → x ≡ pair_of n s t i g
pair_is n i s t x r g p q e = pair_eq x (pair_of n s t i g) (p ∙ ap (λ (h : SwitchRow). switch_part n s t i h.a h.e) (sym e)) (q ∙ ap (λ (h : SwitchRow). h.a) (sym e))
