use Rattle.std.proofs.Common.{◌≡◌, ◌++◌, ◌+◌, ◌-◌, length, map}
use Rattle.heco_meaning.specs.Meanings.{output_values}
use Rattle.heco_meaning.proofs.cells.rows_of.Given as goal

abbrev pub invariant-loop-rest : goal.invariant-loop-rest
invariant-loop-rest l = l.rows ++ map (output_values l.wires) l.rest ≡ map (output_values l.wires) l.outputs

abbrev pub decreases-loop-rest : goal.decreases-loop-rest
decreases-loop-rest l = length l.rest
