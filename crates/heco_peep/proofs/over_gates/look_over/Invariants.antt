use Rattle.std.proofs.Common.{length}
use Rattle.heco_peep.proofs.LookOver.{IsUnderway}
use Rattle.heco_peep.proofs.over_gates.look_over.Given as goal

abbrev pub invariant-loop-rest : goal.invariant-loop-rest
invariant-loop-rest g l = IsUnderway l.p l.weights l.c (((Rattle.heco_peep.specs.contracts.over_gates.look_over.dyn-1-ghosts g.dyn-1).0.entry l.initial.pass.vtable).1.handed l.initial.pass.value) (((Rattle.heco_peep.specs.contracts.over_gates.look_over.dyn-1-ghosts g.dyn-1).0.entry l.pass.vtable).1.handed l.pass.value) l.changed l.rest

abbrev pub decreases-loop-rest : goal.decreases-loop-rest
decreases-loop-rest g l = length l.rest
