-- The vectors of a source's output elements: from unrolling and batching, and as placing asks for them.
use Rattle.std.proofs.Common.{◌≡◌, ◌∙◌, refl, sym, ap, subst, ℕ, ◌*◌, ◌≤◌, true, false, List, [], ◌∷◌, map, length, length-append, Ok, Err, arith}
use Rattle.std.specs.List.{flat_map, sum_by}
use Rattle.std.proofs.lemmas.List.{length-map}
use Rattle.std.proofs.lemmas.List.Sums.{sum_by-cons}
use Rattle.heco_nums.specs.declared.shape.Shape.{Shape}
use Rattle.heco_syntax.specs.declared.tree.Source.{Source}
use Rattle.heco_types.specs.Shapes.{shapes_of}
use Rattle.heco_types.specs.Typing.{IsTyped}
use Rattle.heco_execution.specs.Laws.{source_terms, mapped}
use Rattle.heco_execution.specs.Outcomes.{Outcome}
use Rattle.heco_written.specs.ScalarTerm.{ScalarTerm}
use Rattle.heco_written.specs.WrittenForm.{vectors_of, written}
use Rattle.heco_ir.specs.declared.home.Home.{Home}
use Rattle.heco_ir.specs.declared.scalar.SNode.{SNode}
use Rattle.heco_ir.specs.declared.vector.VNode.{VNode}
use Rattle.heco_ir.specs.Ranges.{AllFit, gates_of_nodes}
use Rattle.heco_ir.specs.Terms.{terms_at}
use Rattle.heco_ir.specs.Unrolled.{AllElementsBelow, operations, root_terms}
use Rattle.heco_ir.specs.Used.{EachOnce}
use Rattle.heco_batch.specs.Roots.{homes_from, written_homes}
use Rattle.heco_ir.specs.Homes.{AllHomesFit}
use Rattle.heco_unroll.specs.Unrolling.{element_terms, HaveLengths}
use Rattle.heco_unroll.proofs.Shapes.{outputs_have_their_lengths}
use Rattle.heco_place.specs.Fitting.{AreHomes}
use Rattle.heco_place.specs.NodeHomes.{homes_over}
use Rattle.heco_good.specs.Good.{modulus, slots, homes_of}
use Rattle.heco_compile.specs.inside.Vectors.{AreVectors}
use Rattle.heco_compile.proofs.Placeable.{are_homes, length-places}
use Rattle.heco_compile.proofs.WrittenAgain.{written_again}

-- ---- from unrolling and batching

-- rows of terms whose items are these
record HasRows (outcome : Outcome (List (List ScalarTerm))) (xs : List ScalarTerm) : Type 0 where
  rows : List (List ScalarTerm)
  is : outcome ≡ Ok rows
  items : flat_map (λ row. row) rows ≡ xs

rows_of : (outcome : Outcome (List (List ScalarTerm))) (xs : List ScalarTerm) → mapped (λ rows. flat_map (λ row. row) rows) outcome ≡ Ok xs → HasRows outcome xs
rows_of (Ok rows) xs e = let same : flat_map (λ row. row) rows ≡ xs = cc in record { rows = rows; is = refl; items = same }
rows_of (Err b) xs e = absurd (let no : ⊥ = cc in no)

-- what batching says of scalar nodes and their roots
pub record AreBatched (t slots : ℕ) (es : List SNode) (es_roots : List ℕ) (nodes : List VNode) (roots : List ℕ) (homes : List Home) : Type 0 where
  pub homes_are : homes ≡ homes_from 0 (written_homes t slots (root_terms es es_roots))
  pub roots_are : terms_at nodes roots ≡ vectors_of (written_homes t slots (root_terms es es_roots))
  pub homes_fit : AllHomesFit slots t homes
  pub once : EachOnce nodes
  pub few : gates_of_nodes nodes ≤ 39 * operations es
  pub fit : AllFit slots t es nodes

pub are_vectors : (source : Source) → IsTyped source → (es : List SNode) (es_roots : List ℕ) (nodes : List VNode) (roots : List ℕ) (homes : List Home)
    → element_terms (modulus source) source ≡ Ok (root_terms es es_roots) → AllElementsBelow (length (shapes_of false source.ports)) es → operations es ≤ 524288
    → AreBatched (modulus source) (slots source) es es_roots nodes roots homes → AreVectors source nodes roots homes
are_vectors source typed es es_roots nodes roots homes unrolled below few h =
    let found : HasRows (source_terms (modulus source) source) (root_terms es es_roots) = rows_of (source_terms (modulus source) source) (root_terms es es_roots) unrolled in
    let long : HaveLengths (shapes_of true source.ports) (Ok found.rows) = subst (HaveLengths (shapes_of true source.ports)) found.is (outputs_have_their_lengths (modulus source) source typed) in
    let same : written_homes (modulus source) (slots source) (root_terms es es_roots) ≡ homes_of source found.rows = ap (written_homes (modulus source) (slots source)) (sym found.items) in
    record {
      terms = found.rows;
      are = record { execution = found.is; long = long };
      homes_are = h.homes_are ∙ ap (homes_from 0) same;
      roots_are = h.roots_are ∙ ap vectors_of same;
      homes_fit = h.homes_fit;
      once = h.once;
      few = omega (arith, h.few, few);
      scalars = es;
      elements = below;
      fit = h.fit;
    }

-- ---- as placing asks for them

counted : (rows : List (List ScalarTerm)) (shapes : List Shape) → map (λ row. length row) rows ≡ map (λ s. s.len) shapes
    → sum_by (λ (s : Shape). s.len) shapes ≡ length (flat_map (λ row. row) rows)
counted [] [] e = refl
counted [] (s ∷ shapes) e = absurd (let no : ⊥ = cc in no)
counted (row ∷ rows) [] e = absurd (let no : ⊥ = cc in no)
counted (row ∷ rows) (s ∷ shapes) e =
    let here : length row ≡ s.len = cc in
    let rest : map (λ row. length row) rows ≡ map (λ s. s.len) shapes = cc in
    omega (arith, sum_by-cons (λ (s : Shape). s.len) s shapes, here, length-append row (flat_map (λ row. row) rows), counted rows shapes rest)

module _ (source : Source) (nodes : List VNode) (roots : List ℕ) (homes : List Home) (h : AreVectors source nodes roots homes) (used : List VNode) (used_roots : List ℕ)
    (e : terms_at used used_roots ≡ terms_at nodes roots) where
  -- one home for each output element, which name the roots in order
  pub homes_placeable : AreHomes (slots source) (modulus source) (length used_roots) (shapes_of true source.ports) homes
  homes_placeable =
      let hs = homes_of source h.terms in
      let count : sum_by (λ (s : Shape). s.len) (shapes_of true source.ports) ≡ length hs =
      counted h.terms (shapes_of true source.ports) h.are.long ∙ sym (length-map (flat_map (λ row. row) h.terms) (λ x. (written (modulus source) (slots source) x).home)) in
      subst (AreHomes (slots source) (modulus source) (length used_roots) (shapes_of true source.ports)) (sym h.homes_are)
      (are_homes (slots source) (modulus source) (length used_roots) (shapes_of true source.ports) hs count (length-places used used_roots hs (e ∙ h.roots_are))
      (subst (AllHomesFit (slots source) (modulus source)) h.homes_are h.homes_fit))

  -- and the homes over the roots' vectors are the written homes of the terms
  pub homes_written : homes_over (terms_at used used_roots) homes ≡ homes_of source h.terms
  homes_written = ap (λ vs. homes_over vs homes) (e ∙ h.roots_are) ∙ ap (homes_over (vectors_of (homes_of source h.terms))) h.homes_are ∙ written_again (homes_of source h.terms)
