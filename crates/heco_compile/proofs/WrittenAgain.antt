-- The homes that batching numbers, with the vectors of its roots, are the written homes again.
use Rattle.std.proofs.Common.{◌≡◌, ◌∙◌, ℕ, ◌+◌, List, [], ◌∷◌, ◌++◌, length, refl, sym, ap, ap₂, append_assoc}
use Rattle.std.proofs.lemmas.List.{get_or_at, length_push}
use Rattle.heco_written.specs.VectorTerm.{VectorTerm, Input}
use Rattle.heco_written.specs.WrittenForm.{WrittenHome, Known, At as AtPlace, vectors_of}
use Rattle.heco_batch.specs.Roots.{homes_from}
use Rattle.heco_place.specs.NodeHomes.{homes_over}

-- behind vectors that are numbered already
again : (us : List VectorTerm) (next : ℕ) (hs : List WrittenHome) → length us ≡ next → homes_over (us ++ vectors_of hs) (homes_from next hs) ≡ hs
again us next [] e = refl
again us next (Known c ∷ hs) e = ap (λ (rest : List WrittenHome). Known c ∷ rest) (again us next hs e)
again us next (AtPlace p ∷ hs) e =
    ap₂ (λ (h : WrittenHome) (rest : List WrittenHome). h ∷ rest)
    (ap (λ (v : VectorTerm). AtPlace (record { vector = v; slot = p.slot })) (get_or_at us p.vector (vectors_of hs) (Input 0) next e))
    (ap (λ (vs : List VectorTerm). homes_over vs (homes_from (next + 1) hs)) (sym (append_assoc us (p.vector ∷ []) (vectors_of hs)))
    ∙ again (us ++ p.vector ∷ []) (next + 1) hs (length_push us p.vector ∙ ap (λ n. n + 1) e))

pub written_again : (hs : List WrittenHome) → homes_over (vectors_of hs) (homes_from 0 hs) ≡ hs
written_again hs = again [] 0 hs refl
