-- A circuit whose outputs hold the homes of a source's terms means what the source means.
use Rattle.std.proofs.Common.{◌≡◌, ◌∙◌, ℕ, true, false, List, [], map, sym, ap}
use Rattle.std.specs.Prelude.{All}
use Rattle.heco_nums.specs.Presets.{modulus_of, slots_of}
use Rattle.heco_nums.proofs.PresetCases.{modulus_pos, slots_pos}
use Rattle.heco_syntax.specs.declared.tree.Source.{Source}
use Rattle.heco_types.specs.Shapes.{shapes_of}
use Rattle.heco_circuit.specs.Plans.{Plan}
use Rattle.heco_circuit.specs.declared.gate.Output.{Output}
use Rattle.heco_meaning.specs.Meanings.{cell_value, meaning_of, wires_of}
use Rattle.heco_texts.specs.Answers.{HaveFit}
use Rattle.heco_written.specs.ScalarTerm.{ScalarTerm, IsMade, is_number, scalar_value}
use Rattle.heco_written.specs.World.{World}
use Rattle.heco_written.specs.WrittenForm.{home_value}
use Rattle.heco_thrift.specs.Homes.{all_cells, is_number_cell, world_of}
use Rattle.heco_thrift.proofs.HeldValues.{held_values}
use Rattle.heco_good.specs.Good.{preset_named, modulus, slots, homes_of}
use Rattle.heco_circuit.specs.Circuits.{IsCircuit}
use Rattle.heco_thrift.specs.Placed.{IsPlaced}
use Rattle.heco_good.specs.Placed.{AreTerms, PlacedIsGood}
use Rattle.heco_thrift.proofs.Flat.{joined, map_flat}
use Rattle.heco_thrift.proofs.HomeValues.{homes_hold, homes_known, cells_known}
use Rattle.heco_good.proofs.ItemsLaw.{world, made, fitting, good_by_items}

module _ (source : Source) (c : Plan) (terms : List (List ScalarTerm)) (are : AreTerms source terms) (valid : IsCircuit c)
    (placed : IsPlaced (preset_named source) (shapes_of false source.ports) (shapes_of true source.ports) (homes_of source terms) c) where
  terms_made : All (IsMade (modulus source) (slots source)) (joined terms)
  terms_made = made source c terms are.execution are.long valid placed.preset placed.inputs_are placed.outputs_are

  same_numbers : map is_number_cell (all_cells c) ≡ map is_number (joined terms)
  same_numbers =
      cells_known c (all_cells c) (homes_of source terms) placed.holds ∙ homes_known (world source []) (slots_pos (preset_named source)) (modulus_pos (preset_named source)) (joined terms) terms_made

  same_world : (rows : List (List ℕ)) → world_of c.preset rows ≡ world source rows
  same_world rows = ap (λ id. record { modulus = modulus_of id; slots = slots_of id; inputs = rows }) placed.preset

  items : (rows : List (List ℕ)) → HaveFit (modulus source) (shapes_of false source.ports) rows → joined (meaning_of c rows) ≡ map (λ x. scalar_value (world source rows) x) (joined terms)
  unfolding meaning_of
  items rows fit =
      sym (map_flat (cell_value (wires_of c rows)) (λ (o : Output). o.cells) c.outputs)
      ∙ held_values c (homes_of source terms) rows valid placed.holds (fitting source c terms are.execution are.long valid placed.preset placed.inputs_are placed.outputs_are rows fit)
      ∙ ap (λ (w : World). map (home_value w) (homes_of source terms)) (same_world rows)
      ∙ homes_hold (world source rows) (slots_pos (preset_named source)) (modulus_pos (preset_named source)) (joined terms) terms_made

pub placed_is_good : (source : Source) (c : Plan) → PlacedIsGood source c
placed_is_good source c terms are valid placed =
    good_by_items source c terms are.execution are.long valid placed.preset placed.inputs_are placed.outputs_are
    (same_numbers source c terms are valid placed) (items source c terms are valid placed) placed.thrift
