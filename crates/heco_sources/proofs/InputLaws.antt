-- The inputs of a typed source have names of their own, and are few.
use Rattle.std.proofs.Common.{◌≡◌, ◌≢◌, ◌∙◌, sym, ap, ◌≤◌, Bool, not, List, [], ◌∷◌, map, length, arith}
use Rattle.std.specs.List.{AllPairs, filter}
use Rattle.std.proofs.lemmas.List.{get_or-map, length-map}
use Rattle.std.proofs.lemmas.List.Kept.{AllPairs-filter}
use Rattle.std.proofs.lemmas.List.Sums.{length-filter, count_by-le-length}
use Rattle.heco_syntax.specs.declared.tree.Param.{Param}
use Rattle.heco_types.specs.Shapes.{shape_of, shapes_of}
use Rattle.heco_types.specs.Table.{differ}
use Rattle.heco_texts.specs.Answers.{HaveOwnNames}

shapes_apart : (ps : List Param) → AllPairs (λ p q. p.name.text ≢ q.name.text) ps → HaveOwnNames (map shape_of ps)
shapes_apart [] apart i j d below within = absurd (omega arith)
shapes_apart (p ∷ ps) apart i j d below within = λ same.
    let long : length (map shape_of (p ∷ ps)) ≡ length (p ∷ ps) = length-map (p ∷ ps) shape_of in
    let first = get_or-map shape_of (p ∷ ps) i p d (omega (arith, long)) in
    let second = get_or-map shape_of (p ∷ ps) j p d (omega (arith, long)) in
    apart i j p below (omega (arith, long)) (sym (ap (λ s. s.name) first) ∙ (same ∙ ap (λ s. s.name) second))

pub own_names : (output : Bool) (ps : List Param) → AllPairs (λ p q. p.name.text ≢ q.name.text) ps → HaveOwnNames (shapes_of output ps)
own_names output ps apart = shapes_apart (filter (λ p. not (differ p.output output)) ps) (AllPairs-filter (λ p q. p.name.text ≢ q.name.text) (λ p. not (differ p.output output)) ps apart)

pub few_shapes : (output : Bool) (ps : List Param) → length ps ≤ 256 → length (shapes_of output ps) ≤ 256
few_shapes output ps few =
    omega (arith, length-map (filter (λ p. not (differ p.output output)) ps) shape_of, length-filter (λ p. not (differ p.output output)) ps, count_by-le-length (λ p. not (differ p.output output)) ps)
