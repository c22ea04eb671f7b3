use Rattle.std.proofs.Common.{arith}
use Rattle.heco_ir.specs.Vectors.{vector_operands}
use Rattle.heco_cse.proofs.Marking.{marking_start, marking_end}
use Rattle.heco_cse.proofs.dead.mark_operands.Goals as goal

pub loop-k-init : goal.loop-k-init
loop-k-init c = marking_start _ (vector_operands c.args.n)

pub returns-clause-marked : goal.returns-clause-marked
returns-clause-marked c = marking_end c.loop-k.invariant (omega arith)
