use Rattle.std.proofs.Common.{◌≡◌, length}
use Rattle.std.specs.List.{list_any}
use Rattle.heco_circuit.specs.Needs.{is_relin}
use Rattle.heco_circuit.proofs.key_needs.has_relin.Given as goal

abbrev pub invariant-loop-rest : goal.invariant-loop-rest
invariant-loop-rest l = list_any is_relin l.rest ≡ list_any is_relin l.gates

abbrev pub decreases-loop-rest : goal.decreases-loop-rest
decreases-loop-rest l = length l.rest
