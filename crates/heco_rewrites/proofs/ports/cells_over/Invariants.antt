use Rattle.std.proofs.Common.{◌≡◌, ◌++◌, map, length}
use Rattle.std.specs.Prelude.{slice_index}
use Rattle.heco_rewrites.specs.Wires.{cell_over}
use Rattle.heco_rewrites.proofs.ports.cells_over.Given as goal

abbrev pub invariant-loop-rest : goal.invariant-loop-rest
invariant-loop-rest l = l.out ++ map (cell_over (slice_index l.names)) l.rest ≡ map (cell_over (slice_index l.names)) l.cells

abbrev pub decreases-loop-rest : goal.decreases-loop-rest
decreases-loop-rest l = length l.rest
