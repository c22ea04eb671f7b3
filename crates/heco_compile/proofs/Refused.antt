-- How what one stage says of a refusal is what the source, or the text, is refused for.
use Rattle.std.proofs.Common.{◌≡◌, ◌≢◌, ◌∙◌, refl, sym, subst, ℕ, zero, suc, List, [], ◌∷◌, Some, None, Ok, Err, true, inl, inr}
use Rattle.std.specs.Prelude.{All, slice_get}
use Rattle.std.proofs.lemmas.List.Elements.{All-head, All-tail}
use Rattle.heco_nums.specs.declared.shape.Shape.{Shape}
use Rattle.heco_syntax.specs.declared.tree.Source.{Source}
use Rattle.heco_types.specs.Shapes.{shapes_of}
use Rattle.heco_execution.specs.Laws.{source_terms}
use Rattle.heco_execution.specs.Outcomes.{Refuses}
use Rattle.heco_execution.specs.declared.error.EvalErr.{EvalErr}
use Rattle.heco_execution.specs.declared.error.EvalErr.TheVariants as execution
use Rattle.heco_written.specs.Bound.{scheme_of}
use Rattle.heco_written.specs.ScalarTerm.{ScalarTerm}
use Rattle.heco_written.specs.VectorTerm.{VectorTerm}
use Rattle.heco_ir.specs.declared.home.Home.{Home}
use Rattle.heco_place.specs.NodeHomes.{homes_over}
use Rattle.heco_place.specs.Refusals.{HasCause, IsTooDeep as IsTooDeepAmong}
use Rattle.heco_place.specs.declared.error.PlaceErr.{PlaceErr}
use Rattle.heco_place.specs.declared.error.PlaceErr.TheVariants as placing
use Rattle.heco_sources.specs.Sources.{IsSource}
use Rattle.heco_sources.specs.Sources as reading
use Rattle.heco_sources.specs.declared.source.SourceErr.{SourceErr}
use Rattle.heco_sources.specs.declared.source.SourceErr.TheVariants as e
use Rattle.heco_good.specs.Accepted.{IsAccepted, IsTooDeep, AllShallow, depth_of}
use Rattle.heco_good.specs.Good.{modulus, preset_named, homes_of}
use Rattle.heco_good.specs.Placed.{AreTerms}
use Rattle.heco_compile.specs.Compiling.{IsRefused, IsTextRefused}
use Rattle.heco_compile.specs.Refusals.{of_reading, of_execution, of_placing}
use Rattle.heco_compile.specs.declared.error.CompileErr.{CompileErr}
use Rattle.heco_compile.specs.declared.error.CompileErr.TheVariants.{SourceLong, At, TooDeep, Memory}
use Rattle.heco_compile.proofs.Deep.{too_deep}

pub refused_execution : (source : Source) (x : EvalErr) → Refuses x (source_terms (modulus source) source) → IsRefused source (of_execution x)
refused_execution source (execution.At rule at) h = h
refused_execution source execution.Memory h = tt

pub refused_placing : (A : Type 0) (source : Source) (terms : List (List ScalarTerm)) → AreTerms source terms → (vs : List VectorTerm) (homes : List Home)
    → homes_over vs homes ≡ homes_of source terms → (id : ℕ) → id ≡ preset_named source → (outputs : List Shape) → outputs ≡ shapes_of true source.ports → (x : PlaceErr)
    → HasCause {A = A} (scheme_of id) vs homes outputs (Err x) → IsRefused source (of_placing x)
refused_placing A source terms are vs homes over id i outputs o (placing.TooDeep out index bound) h =
    too_deep source terms are vs homes over out index bound
    (subst (λ n. IsTooDeepAmong (scheme_of n) vs homes (shapes_of true source.ports) out index bound) i (subst (λ shapes. IsTooDeepAmong (scheme_of id) vs homes shapes out index bound) o h))
refused_placing A source terms are vs homes over id i outputs o placing.Memory h = tt

pub refused_reading : (text : List ℕ) (x : SourceErr) → reading.IsRefused text x → IsTextRefused text (of_reading x)
refused_reading text e.SourceLong h = h
refused_reading text (e.At rule at) h = inl h
refused_reading text e.Memory h = tt

pub refused_source : (text : List ℕ) (source : Source) → IsSource text source → (x : CompileErr) → IsRefused source x → IsTextRefused text x
refused_source text source is SourceLong h = absurd h
refused_source text source is (At rule at) h = inr (record { source = source; is = is; refused = h })
refused_source text source is (TooDeep out index bound) h = record { source = source; is = is; refused = h }
refused_source text source is Memory h = tt

-- ---- a refused source is not accepted

at_all : {X : Type 0} (P : X → Type 0) (xs : List X) (k : ℕ) (x : X) → All P xs → slice_get xs k ≡ Some x → P x
at_all P [] k x h e = absurd (let no : ⊥ = cc in no)
at_all P (y ∷ xs) zero x h e = let same : y ≡ x = cc in subst P same (All-head P y xs h)
at_all P (y ∷ xs) (suc k) x h e = at_all P xs k x (All-tail P y xs h) e

not_deep : (source : Source) (out index bound : ℕ) → IsTooDeep source out index bound → ¬ IsAccepted source
not_deep source out index bound h a =
    let two : Ok a.terms ≡ Ok h.terms = sym a.execution ∙ h.execution in
    let same : a.terms ≡ h.terms = cc in
    let row : AllShallow source h.row = at_all (AllShallow source) h.terms out h.row (subst (λ ts. All (AllShallow source) ts) same a.shallow) h.row_is in
    let none : depth_of source h.term ≡ None = at_all (λ x. depth_of source x ≡ None) h.row index h.term row h.term_is in
    let some : None ≡ Some bound = sym none ∙ h.deep in
    cc

pub refused_not_accepted : (source : Source) (x : CompileErr) → x ≢ Memory → IsRefused source x → ¬ IsAccepted source
refused_not_accepted source SourceLong n h a = h
refused_not_accepted source (At rule at) n h a = let two : Ok a.terms ≡ Err _ = sym a.execution ∙ h in cc
refused_not_accepted source (TooDeep out index bound) n h a = not_deep source out index bound h a
refused_not_accepted source Memory n h a = n refl
