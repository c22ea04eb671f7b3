use Rattle.std.proofs.Common.{◌≡◌, map}
use Rattle.heco_schedules.specs.Tables.{below}
use Rattle.heco_schedules.specs.Standings.{gate_ready}
use Rattle.heco_sched.specs.Wirings.{operands_of}
use Rattle.heco_sched.proofs.opening.ready_flags.Given as goal

abbrev pub invariant-loop-gate : goal.invariant-loop-gate
invariant-loop-gate l = l.flags.items ≡ map (gate_ready l.inputs (map operands_of l.gates) l.stages) (below l.gate)
