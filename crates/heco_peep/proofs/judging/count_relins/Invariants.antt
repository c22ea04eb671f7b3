use Rattle.std.proofs.Common.{◌≡◌, ◌≤◌, take}
use Rattle.std.specs.List.{count_by}
use Rattle.heco_circuit.specs.Needs.{is_relin}
use Rattle.heco_peep.proofs.judging.count_relins.Given as goal

abbrev pub invariant-loop-gate : goal.invariant-loop-gate
invariant-loop-gate l = (l.count ≤ l.gate-index) × (l.count ≡ count_by is_relin (take l.gate-index l.gates))
