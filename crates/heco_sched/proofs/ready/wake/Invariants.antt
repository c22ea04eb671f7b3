use Rattle.std.proofs.Common.{map}
use Rattle.heco_sched.specs.Wirings.{operands_of}
use Rattle.heco_schedules.specs.Standings.{gate_ready}
use Rattle.heco_sched.proofs.Waking.{Waking}
use Rattle.heco_sched.proofs.ready.wake.Given as goal

abbrev pub invariant-loop-above : goal.invariant-loop-above
invariant-loop-above l = Waking (gate_ready l.inputs (map operands_of l.gates) l.stages) (map operands_of l.gates) l.wire l.above l.fn.ready.numbers l.ready.numbers l.ready.places

abbrev pub decreases-loop-above : goal.decreases-loop-above
decreases-loop-above l = l.above
