use Rattle.std.proofs.Common.{◌≡◌, ◌++◌, length}
use Rattle.heco_rewrites.proofs.ports.copied_inputs.Given as goal

abbrev pub invariant-loop-rest : goal.invariant-loop-rest
invariant-loop-rest l = l.copy ++ l.rest ≡ l.inputs

abbrev pub decreases-loop-rest : goal.decreases-loop-rest
decreases-loop-rest l = length l.rest
