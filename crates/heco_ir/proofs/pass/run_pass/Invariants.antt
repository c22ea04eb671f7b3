use Rattle.heco_ir.proofs.Means.{Placed}
use Rattle.heco_ir.proofs.pass.run_pass.Given as goal

abbrev pub invariant-loop-root : goal.invariant-loop-root
invariant-loop-root g l = Placed l.ids.items l.root-items l.roots l.root-index
