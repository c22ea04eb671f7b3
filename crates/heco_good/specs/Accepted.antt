-- Which sources are accepted, and the first output element that is too deep.
use Rattle.std.specs.Prelude.{◌≡◌, ℕ, List, take, Option, Some, None, Ok, slice_get, All}
use Rattle.heco_syntax.specs.declared.tree.Source.{Source}
use Rattle.heco_execution.specs.Laws.{source_terms}
use Rattle.heco_written.specs.Bound.{scheme_of}
use Rattle.heco_written.specs.ScalarTerm.{ScalarTerm}
use Rattle.heco_written.specs.WrittenForm.{written}
use Rattle.heco_thrift.specs.Deep.{deep_bound}
use Rattle.heco_good.specs.Good.{preset_named, modulus, slots}

-- the bound of what is too deep in the written home of a source's term
abbrev pub depth_of : Source → ScalarTerm → Option ℕ
depth_of source x = deep_bound (scheme_of (preset_named source)) (written (modulus source) (slots source) x).home

abbrev pub AllShallow : Source → List ScalarTerm → Type 0
AllShallow source row = All (λ x. depth_of source x ≡ None) row

-- no rule of execution is broken, and no output element is too deep
pub record IsAccepted (source : Source) : Type 0 where
  pub terms : List (List ScalarTerm)
  pub execution : source_terms (modulus source) source ≡ Ok terms
  pub shallow : All (AllShallow source) terms

-- this element of this output is the first that is too deep, and this is the bound
pub record IsTooDeep (source : Source) (out index depth : ℕ) : Type 0 where
  pub terms : List (List ScalarTerm)
  pub execution : source_terms (modulus source) source ≡ Ok terms
  pub row : List ScalarTerm
  pub row_is : slice_get terms out ≡ Some row
  pub rows_before : All (AllShallow source) (take out terms)
  pub term : ScalarTerm
  pub term_is : slice_get row index ≡ Some term
  pub terms_before : AllShallow source (take index row)
  pub deep : depth_of source term ≡ Some depth
