-- What unrolling gives: nodes whose roots have the terms of the output elements.
use Rattle.std.specs.Prelude.{◌≡◌, ℕ, true, List, map, length, Ok, Err}
use Rattle.std.specs.List.{flat_map, sum_by}
use Rattle.heco_nums.specs.declared.shape.Shape.{Shape}
use Rattle.heco_syntax.specs.declared.tree.Source.{Source}
use Rattle.heco_types.specs.Shapes.{shapes_of}
use Rattle.heco_types.specs.Typing.{IsTyped}
use Rattle.heco_written.specs.ScalarTerm.{ScalarTerm}
use Rattle.heco_execution.specs.Outcomes.{Outcome}
use Rattle.heco_execution.specs.Laws.{source_terms, mapped}

-- the terms of a source's output elements modulo t, output by output, or the first rule of execution that it breaks
abbrev pub element_terms : ℕ → Source → Outcome (List ScalarTerm)
element_terms t source = mapped (λ rows. flat_map (λ row. row) rows) (source_terms t source)

-- how many elements the outputs have
abbrev pub element_count : Source → ℕ
element_count source = sum_by (λ o. o.len) (shapes_of true source.ports)

-- where no rule is broken, a list for each shape, of its length
abbrev pub HaveLengths : List Shape → Outcome (List (List ScalarTerm)) → Type 0
HaveLengths shapes (Ok rows) = map (λ row. length row) rows ≡ map (λ s. s.len) shapes
HaveLengths shapes (Err e) = Unit {0}

-- the lists of a typed source's outputs have the outputs' lengths
abbrev pub OutputsHaveTheirLengths : Type 0
OutputsHaveTheirLengths = (t : ℕ) (source : Source) → IsTyped source → HaveLengths (shapes_of true source.ports) (source_terms t source)
