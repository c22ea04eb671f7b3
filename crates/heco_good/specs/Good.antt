-- When a circuit is a good one for a source: it means what the source means, and costs no more than its written form.
use Rattle.std.specs.Prelude.{◌≡◌, ℕ, true, false, List, map, Ok}
use Rattle.std.specs.List.{flat_map}
use Rattle.heco_syntax.specs.declared.tree.Source.{Source}
use Rattle.heco_types.specs.Presets.{id_named, slots_named}
use Rattle.heco_types.specs.Shapes.{shapes_of}
use Rattle.heco_execution.specs.Laws.{source_terms}
use Rattle.heco_eval.specs.Typed.{modulus_named, outputs_of}
use Rattle.heco_circuit.specs.Circuits.{IsCircuit}
use Rattle.heco_circuit.specs.Plans.{Plan, shape_of}
use Rattle.heco_meaning.specs.Meanings.{meaning_of}
use Rattle.heco_texts.specs.Answers.{HaveFit}
use Rattle.heco_written.specs.ScalarTerm.{ScalarTerm, is_number}
use Rattle.heco_written.specs.WrittenForm.{WrittenHome, written}
use Rattle.heco_thrift.specs.Homes.{is_number_cell}
use Rattle.heco_thrift.specs.Thrift.{IsThrifty}

-- the preset that the source names, its plaintext modulus and its slots
abbrev pub preset_named : Source → ℕ
preset_named source = id_named source.params.text

abbrev pub modulus : Source → ℕ
modulus source = modulus_named source.params.text

abbrev pub slots : Source → ℕ
slots source = slots_named source.params.text

-- the written homes of the elements of all outputs, in order
abbrev pub homes_of : Source → List (List ScalarTerm) → List WrittenHome
homes_of source terms = map (λ x. (written (modulus source) (slots source) x).home) (flat_map (λ row. row) terms)

-- the circuit is valid, has the preset, the inputs and the outputs of the source, a number exactly where a term is one, for
-- all inputs below t what the source's execution gives, and is thrifty
pub record Good (source : Source) (c : Plan) : Type 0 where
  pub valid : IsCircuit c
  pub preset : c.preset ≡ preset_named source
  pub inputs : c.inputs ≡ shapes_of false source.ports
  pub outputs : map shape_of c.outputs ≡ shapes_of true source.ports
  pub terms : List (List ScalarTerm)
  pub execution : source_terms (modulus source) source ≡ Ok terms
  pub numbers : map (λ o. map is_number_cell o.cells) c.outputs ≡ map (map is_number) terms
  pub meaning : (rows : List (List ℕ)) → HaveFit (modulus source) (shapes_of false source.ports) rows → outputs_of source rows ≡ Ok (meaning_of c rows)
  pub thrift : IsThrifty c (homes_of source terms)
