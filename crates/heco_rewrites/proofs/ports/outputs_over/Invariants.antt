use Rattle.std.proofs.Common.{◌≡◌, ◌++◌, map, length}
use Rattle.std.specs.Prelude.{slice_index}
use Rattle.heco_rewrites.specs.Wires.{output_over}
use Rattle.heco_rewrites.proofs.ports.outputs_over.Given as goal

abbrev pub invariant-loop-rest : goal.invariant-loop-rest
invariant-loop-rest l = l.out ++ map (output_over (slice_index l.names)) l.rest ≡ map (output_over (slice_index l.names)) l.outputs

abbrev pub decreases-loop-rest : goal.decreases-loop-rest
decreases-loop-rest l = length l.rest
