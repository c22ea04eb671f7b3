use Rattle.std.proofs.Common.{◌≡◌, ◌++◌, map, take, drop, length}
use Rattle.std.specs.List.{sum_by, flat_map}
use Rattle.heco_circuit.specs.Plans.{shape_of}
use Rattle.heco_place.specs.inside.Cells.{cell_over, cells_of}
use Rattle.heco_place.specs.Fitting.{AllHomesWithin}
use Rattle.heco_place.proofs.outputs.outputs_of.Given as goal

abbrev pub invariant-loop-i : goal.invariant-loop-i
invariant-loop-i l = record {
  shapes_are : map shape_of l.outputs ≡ take l.i l.shapes;
  cells_are : flat_map cells_of l.outputs ++ map (cell_over l.carriers l.roots) l.rest ≡ map (cell_over l.carriers l.roots) l.homes;
  count : length l.rest ≡ sum_by (λ s. s.len) (drop l.i l.shapes);
  within : AllHomesWithin (length l.carriers) l.roots l.rest;
}
