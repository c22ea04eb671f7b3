-- That circuits which are placed from a source's terms are good, and what a source's execution is of its terms.
use Rattle.std.specs.Prelude.{◌≡◌, ℕ, List, false, true, length, map, Ok}
use Rattle.heco_syntax.specs.declared.tree.Source.{Source}
use Rattle.heco_types.specs.Shapes.{shapes_of}
use Rattle.heco_execution.specs.Laws.{source_terms, mapped, values_of}
use Rattle.heco_eval.specs.Typed.{outputs_of}
use Rattle.heco_circuit.specs.Circuits.{IsCircuit}
use Rattle.heco_circuit.specs.Plans.{Plan}
use Rattle.heco_texts.specs.Answers.{HaveFit}
use Rattle.heco_written.specs.ScalarTerm.{ScalarTerm}
use Rattle.heco_thrift.specs.Placed.{IsPlaced}
use Rattle.heco_good.specs.Good.{preset_named, modulus, slots, homes_of, Good}

-- these are the terms of the source's execution, in rows of the outputs' lengths
pub record AreTerms (source : Source) (terms : List (List ScalarTerm)) : Type 0 where
  pub execution : source_terms (modulus source) source ≡ Ok terms
  pub long : map (λ row. length row) terms ≡ map (λ s. s.len) (shapes_of true source.ports)

-- a valid circuit that is placed from the written homes of the source's terms is good
abbrev pub PlacedIsGood : Source → Plan → Type 0
PlacedIsGood source c =
    (terms : List (List ScalarTerm)) → AreTerms source terms → IsCircuit c
    → IsPlaced (preset_named source) (shapes_of false source.ports) (shapes_of true source.ports) (homes_of source terms) c → Good source c

-- for inputs of the source's shapes: its terms' values, or the rule that its terms break
abbrev pub ExecutesByTerms : Source → Type 0
ExecutesByTerms source =
    (rows : List (List ℕ)) → HaveFit (modulus source) (shapes_of false source.ports) rows
    → outputs_of source rows
    ≡ mapped (values_of (record { modulus = modulus source; slots = slots source; inputs = rows })) (source_terms (modulus source) source)
