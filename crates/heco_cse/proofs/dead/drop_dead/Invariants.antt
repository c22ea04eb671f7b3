use Rattle.heco_ir.proofs.Means.{Placed}
use Rattle.heco_cse.proofs.dead.drop_dead.Given as goal

abbrev pub invariant-loop-root : goal.invariant-loop-root
invariant-loop-root l = Placed l.ids.items l.root-items l.roots l.root-index
