use Rattle.std.proofs.Common.{◌≡◌, ◌++◌, length}
use Rattle.heco_circuit.specs.Plans.{input_parts}
use Rattle.heco_circuit.proofs.parts.input_parts.Given as goal

abbrev pub invariant-loop-rest : goal.invariant-loop-rest
invariant-loop-rest l = l.parts ++ input_parts l.rest ≡ input_parts l.inputs

abbrev pub decreases-loop-rest : goal.decreases-loop-rest
decreases-loop-rest l = length l.rest
