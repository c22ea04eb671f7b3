use Rattle.std.proofs.Common.{refl}
use Rattle.heco_sched.proofs.OpeningLaws.{map-more}
use Rattle.heco_sched.proofs.opening.ready_flags.Goals as goal

pub loop-gate-preserved : goal.loop-gate-preserved
loop-gate-preserved c = rw (c.in_ok-push.ensures.items, c.loop-gate.invariant, c.gate_is_ready.ensures, map-more) refl
