use Rattle.heco_ir.specs.Vectors.{vector_operands}
use Rattle.heco_cse.proofs.Marking.{Marking}
use Rattle.heco_cse.proofs.dead.mark_operands.Given as goal

abbrev pub invariant-loop-k : goal.invariant-loop-k
invariant-loop-k l = Marking l.initial.marks.items l.marks.items (vector_operands l.n) l.k
