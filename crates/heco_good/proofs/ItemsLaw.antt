-- A circuit whose elements of outputs have the values of the source's terms, one by one, is good.
use Rattle.std.proofs.Common.{◌≡◌, ◌∙◌, ℕ, ◌≤◌, true, false, List, [], ◌∷◌, length, map, Ok, refl, sym, ap, subst}
use Rattle.std.specs.Prelude.{All}
use Rattle.heco_nums.specs.Presets.{modulus_of, slots_of}
use Rattle.heco_nums.specs.declared.shape.Shape.{Shape}
use Rattle.heco_syntax.specs.declared.tree.Source.{Source}
use Rattle.heco_types.specs.Shapes.{shapes_of}
use Rattle.heco_execution.specs.Laws.{source_terms, input_lengths, mapped, values_of, AreMade}
use Rattle.heco_execution.proofs.Made.{terms_are_made}
use Rattle.heco_execution.proofs.Wholes.{numbers_are_the_terms_values}
use Rattle.heco_circuit.specs.Circuits.{IsCircuit}
use Rattle.heco_circuit.specs.Plans.{Plan, shape_of}
use Rattle.heco_thrift.specs.Thrift.{IsThrifty}
use Rattle.heco_circuit.specs.declared.gate.Output.{Output}
use Rattle.heco_meaning.specs.Meanings.{cell_value, meaning_of, wires_of}
use Rattle.heco_texts.specs.Answers.{HaveFit}
use Rattle.heco_written.specs.ScalarTerm.{ScalarTerm, IsMade, is_number, scalar_value}
use Rattle.heco_written.specs.World.{World}
use Rattle.heco_thrift.specs.Homes.{all_cells, is_number_cell}
use Rattle.heco_nums.proofs.PresetCases.{modulus_pos}
use Rattle.heco_good.specs.Good.{Good, preset_named, modulus, slots, homes_of}
use Rattle.heco_good.specs.Placed.{ExecutesByTerms}
use Rattle.heco_thrift.proofs.Flat.{joined, lengths, map_joined, map_flat, rows_from_items, all_joined, lengths_map, lengths_flat}
use Rattle.heco_good.proofs.SourceInputs.{rows_of_inputs, short_inputs}

output_lengths : (outputs : List Output) → map (λ s. s.len) (map shape_of outputs) ≡ map (λ o. length o.cells) outputs
output_lengths [] = refl
output_lengths (o ∷ outputs) = ap (λ (ns : List ℕ). length o.cells ∷ ns) (output_lengths outputs)

-- these values of the inputs
abbrev pub world : Source → List (List ℕ) → World
world source rows = record { modulus = modulus source; slots = slots source; inputs = rows }

pub executes_by_terms : (source : Source) → ExecutesByTerms source
executes_by_terms source rows fit =
    numbers_are_the_terms_values (record { modulus = modulus source; slots = slots source; inputs = rows }) source (rows_of_inputs (modulus source) source.ports rows fit)

module _ (source : Source) (c : Plan) (terms : List (List ScalarTerm)) (executed : source_terms (modulus source) source ≡ Ok terms)
    (long : map (λ row. length row) terms ≡ map (λ s. s.len) (shapes_of true source.ports))
    (valid : IsCircuit c) (preset : c.preset ≡ preset_named source) (inputs : c.inputs ≡ shapes_of false source.ports) (outputs : map shape_of c.outputs ≡ shapes_of true source.ports) where
  pub made : All (IsMade (modulus source) (slots source)) (joined terms)
  made =
      let short : All (λ n. n ≤ slots source) (input_lengths source.ports) = subst (λ id. All (λ n. n ≤ slots_of id) (input_lengths source.ports)) preset (short_inputs c source.ports valid inputs) in
      let rows = subst (AreMade (modulus source) (slots source)) executed (terms_are_made (modulus source) (slots source) source (modulus_pos (preset_named source)) short) in
      all_joined (IsMade (modulus source) (slots source)) terms rows

  same_lengths : map (λ o. length o.cells) c.outputs ≡ lengths terms
  same_lengths = sym (output_lengths c.outputs) ∙ ap (map (λ (s : Shape). s.len)) outputs ∙ sym long

  pub fitting : (rows : List (List ℕ)) → HaveFit (modulus source) (shapes_of false source.ports) rows → HaveFit (modulus_of c.preset) c.inputs rows
  fitting rows fit = subst (λ id. HaveFit (modulus_of id) c.inputs rows) (sym preset) (subst (λ shapes. HaveFit (modulus source) shapes rows) (sym inputs) fit)

  numbers : map is_number_cell (all_cells c) ≡ map is_number (joined terms) → map (λ o. map is_number_cell o.cells) c.outputs ≡ map (map is_number) terms
  numbers same = rows_from_items (map (λ o. map is_number_cell o.cells) c.outputs) (map (map is_number) terms)
      (lengths_flat is_number_cell (λ (o : Output). o.cells) c.outputs ∙ same_lengths ∙ sym (lengths_map is_number terms))
      (sym (map_flat is_number_cell (λ (o : Output). o.cells) c.outputs) ∙ same ∙ map_joined is_number terms)

  values : (rows : List (List ℕ)) → joined (meaning_of c rows) ≡ map (λ x. scalar_value (world source rows) x) (joined terms) → meaning_of c rows ≡ values_of (world source rows) terms
  unfolding meaning_of
  values rows same =
      rows_from_items (map (λ o. map (cell_value (wires_of c rows)) o.cells) c.outputs) (map (map (λ x. scalar_value (world source rows) x)) terms)
      (lengths_flat (cell_value (wires_of c rows)) (λ (o : Output). o.cells) c.outputs ∙ same_lengths ∙ sym (lengths_map (λ x. scalar_value (world source rows) x) terms))
      (same ∙ map_joined (λ x. scalar_value (world source rows) x) terms)

  pub good_by_items : map is_number_cell (all_cells c) ≡ map is_number (joined terms)
      → ((rows : List (List ℕ)) → HaveFit (modulus source) (shapes_of false source.ports) rows → joined (meaning_of c rows) ≡ map (λ x. scalar_value (world source rows) x) (joined terms))
      → IsThrifty c (homes_of source terms) → Good source c
  good_by_items same items thrift = record {
    valid = valid;
    preset = preset;
    inputs = inputs;
    outputs = outputs;
    terms = terms;
    execution = executed;
    numbers = numbers same;
    meaning = λ rows fit. executes_by_terms source rows fit ∙ ap (mapped (values_of (world source rows))) executed ∙ ap (λ out. Ok out) (sym (values rows (items rows fit)));
    thrift = thrift;
  }
