-- The cells of outputs, from the homes of their elements.
use Rattle.std.specs.Prelude.{ℕ, List, slice_index_or}
use Rattle.heco_ir.specs.declared.dialect.NodeId.{NodeId}
use Rattle.heco_ir.specs.declared.home.Home.{Home}
use Rattle.heco_ir.specs.declared.home.Home.TheVariants.{Number as NumberHome, At}
use Rattle.heco_circuit.specs.declared.gate.Cell.{Cell}
use Rattle.heco_circuit.specs.declared.gate.Cell.TheVariants.{Number, Slot}
use Rattle.heco_circuit.specs.declared.gate.Output.{Output}
use Rattle.heco_place.specs.declared.carrier.Carrier.{Carrier}
use Rattle.heco_place.specs.inside.Ways.{carrier_at}

abbrev pub root_at : List NodeId → ℕ → NodeId
root_at roots root = slice_index_or roots root (record { 0 = 0 })

-- a number stays, and a slot is read where the root's term has two parts
abbrev pub cell_over : List Carrier → List NodeId → Home → Cell
cell_over ds roots (NumberHome c) = Number c
cell_over ds roots (At root slot) = Slot (carrier_at ds (root_at roots root)).short slot

abbrev pub cells_of : Output → List Cell
cells_of o = o.cells
