use Rattle.std.proofs.Common.{◌-◌}
use Rattle.heco_ir.specs.Terms.{vector_at, vector_terms}
use Rattle.heco_fold.proofs.Folding.{FoldingFits}
use Rattle.heco_fold.proofs.run.fold_run.Given as goal

abbrev pub invariant-loop-rest : goal.invariant-loop-rest
invariant-loop-rest l = FoldingFits (vector_at (vector_terms l.fn.c) l.fn.v) l.fn.len l.fn.c l.c l.power l.width l.rest l.low

abbrev pub decreases-loop-rest : goal.decreases-loop-rest
decreases-loop-rest l = l.rest - 1
