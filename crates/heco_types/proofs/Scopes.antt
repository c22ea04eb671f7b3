-- A look-up by the text of a key is a look-up among the names.
use Rattle.std.proofs.Common.{◌≡◌, refl, ap, cond, ℕ, List, [], ◌∷◌, ◌++◌, map, Some}
use Rattle.std.specs.Map.{lookup}
use Rattle.std.specs.Str.{bytes_eq}
use Rattle.heco_types.specs.Names.{name_of, visible}
use Rattle.heco_types.specs.declared.name.Entity.{Entity}

module _ {K : Type 0} (bytes : K → List ℕ) where
  pub visible-lookup : (text : List ℕ) (es : List (K × Entity)) → visible (map (λ e. name_of (bytes e.0) e.1) es) text ≡ lookup (λ k. bytes_eq text (bytes k)) es
  visible-lookup text [] = refl
  visible-lookup text (e ∷ es) = ap (λ rest. cond (bytes_eq text (bytes e.0)) (Some e.1) rest) (visible-lookup text es)

  pub map-push : (es : List (K × Entity)) (k : K) (e : Entity) → map (λ d. name_of (bytes d.0) d.1) (es ++ (k, e) ∷ []) ≡ map (λ d. name_of (bytes d.0) d.1) es ++ name_of (bytes k) e ∷ []
  map-push [] k e = refl
  map-push (d ∷ es) k e = ap (λ rest. name_of (bytes d.0) d.1 ∷ rest) (map-push es k e)
