use Rattle.heco_ir.proofs.Means.{Passing}
use Rattle.heco_ir.proofs.pass.rewrite_all.Given as goal

abbrev pub invariant-loop-i : goal.invariant-loop-i
invariant-loop-i g l = Passing g.D.Dialect.operands_of g.D.Dialect.value l.ir.0 l.out l.ids.items l.i
