use Rattle.std.proofs.Common.{◌≡◌, ◌++◌, ◌+◌, ◌-◌, length, map}
use Rattle.heco_meaning.specs.Meanings.{cell_value}
use Rattle.heco_meaning.proofs.cells.row_of.Given as goal

abbrev pub invariant-loop-rest : goal.invariant-loop-rest
invariant-loop-rest l = l.row ++ map (cell_value l.wires) l.rest ≡ map (cell_value l.wires) l.cells

abbrev pub decreases-loop-rest : goal.decreases-loop-rest
decreases-loop-rest l = length l.rest
