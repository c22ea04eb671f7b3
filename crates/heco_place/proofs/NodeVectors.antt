-- The vectors of homes that name all roots in order are the roots' terms.
use Rattle.std.proofs.Common.{◌≡◌, ◌∙◌, ℕ, ◌+◌, List, [], ◌∷◌, ◌++◌, length, map, refl, sym, ap, ap₂, get_or}
use Rattle.std.specs.List.{range_with_len}
use Rattle.std.proofs.lemmas.List.{append_assoc, get_or_at, length_push}
use Rattle.heco_written.specs.VectorTerm.{VectorTerm, Input}
use Rattle.heco_ir.specs.declared.home.Home.{Home}
use Rattle.heco_ir.specs.declared.home.Home.TheVariants.{Number, At}
use Rattle.heco_written.specs.WrittenForm.{vectors_of}
use Rattle.heco_place.specs.Fitting.{named}
use Rattle.heco_place.specs.NodeHomes.{homes_over}

vectors_named : (vs : List VectorTerm) (homes : List Home) → vectors_of (homes_over vs homes) ≡ map (λ r. get_or vs r (Input 0)) (named homes)
vectors_named vs [] = refl
vectors_named vs (Number c ∷ homes) = vectors_named vs homes
vectors_named vs (At root slot ∷ homes) = ap (λ (us : List VectorTerm). get_or vs root (Input 0) ∷ us) (vectors_named vs homes)

-- the elements behind some others, by their numbers
numbered : (us vs : List VectorTerm) (next : ℕ) → length us ≡ next → map (λ r. get_or (us ++ vs) r (Input 0)) (range_with_len next (length vs)) ≡ vs
numbered us [] next e = refl
numbered us (v ∷ vs) next e =
    ap₂ (λ (x : VectorTerm) (xs : List VectorTerm). x ∷ xs) (get_or_at us v vs (Input 0) next e)
    (ap (λ (ws : List VectorTerm). map (λ r. get_or ws r (Input 0)) (range_with_len (next + 1) (length vs))) (sym (append_assoc us (v ∷ []) vs))
    ∙ numbered (us ++ v ∷ []) vs (next + 1) (length_push us v ∙ ap (λ n. n + 1) e))

pub vectors_over : (vs : List VectorTerm) (homes : List Home) → named homes ≡ range_with_len 0 (length vs) → vectors_of (homes_over vs homes) ≡ vs
vectors_over vs homes e = vectors_named vs homes ∙ ap (map (λ r. get_or vs r (Input 0))) e ∙ numbered [] vs 0 refl
