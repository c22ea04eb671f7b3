-- Circuits whose outputs are what written homes hold.
use Rattle.std.specs.Prelude.{◌≡◌, ℕ, Bool, true, false, List, slice_index}
use Rattle.std.specs.List.{AllZip, flat_map}
use Rattle.heco_nums.specs.Presets.{modulus_of, slots_of}
use Rattle.heco_circuit.specs.Plans.{Plan}
use Rattle.heco_circuit.specs.declared.gate.Cell.{Cell}
use Rattle.heco_circuit.specs.declared.gate.Cell.TheVariants.{Number, Slot}
use Rattle.heco_meaning.specs.Meanings.{wire_at, wires_of}
use Rattle.heco_texts.specs.Answers.{HaveFit}
use Rattle.heco_written.specs.VectorTerm.{slot_value}
use Rattle.heco_written.specs.World.{World}
use Rattle.heco_written.specs.WrittenForm.{WrittenHome, Known, At, Place}

-- these values of the inputs, under the preset of this number
abbrev pub world_of : ℕ → List (List ℕ) → World
world_of id rows = record { modulus = modulus_of id; slots = slots_of id; inputs = rows }

-- for all inputs the slot of the wire is the slot of the place's vector
pub record HoldsPlace (c : Plan) (wire slot : ℕ) (p : Place) : Type 0 where
  pub means : (rows : List (List ℕ)) → HaveFit (modulus_of c.preset) c.inputs rows
      → slice_index (wire_at (wires_of c rows) wire) slot ≡ slot_value (world_of c.preset rows) p.vector p.slot

-- an element is a number exactly where its home is that number; else its wire holds the home's place
abbrev pub HoldsHome : Plan → Cell → WrittenHome → Type 0
HoldsHome c (Number n) (Known d) = n ≡ d
HoldsHome c (Slot wire slot) (At p) = HoldsPlace c wire slot p
HoldsHome c (Number n) (At p) = ⊥
HoldsHome c (Slot wire slot) (Known d) = ⊥

abbrev pub is_number_cell : Cell → Bool
is_number_cell (Number n) = true
is_number_cell (Slot wire slot) = false

-- the elements of all outputs, in order
abbrev pub all_cells : Plan → List Cell
all_cells c = flat_map (λ o. o.cells) c.outputs

-- each element of the outputs, in order, holds its home
abbrev pub HoldsHomes : Plan → List WrittenHome → Type 0
HoldsHomes c homes = AllZip (HoldsHome c) (all_cells c) homes
