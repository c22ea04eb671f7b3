use Rattle.heco_wide.proofs.Joins.{JoinsBoth}
use Rattle.heco_wide.proofs.product.multiply_both.Given as goal

abbrev pub invariant-loop-i : goal.invariant-loop-i
invariant-loop-i l = JoinsBoth l.f.depth l.i l.x l.w l.y l.z l.room
