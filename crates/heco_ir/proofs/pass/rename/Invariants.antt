use Rattle.heco_ir.proofs.Renaming.{Renaming}
use Rattle.heco_ir.proofs.pass.rename.Given as goal

abbrev pub invariant-loop-k : goal.invariant-loop-k
invariant-loop-k g l = Renaming g.D.Dialect.operands_of g.D.Dialect.value l.ids l.fn.n l.m l.k
