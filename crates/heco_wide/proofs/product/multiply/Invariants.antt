use Rattle.heco_wide.proofs.Joins.{Joins}
use Rattle.heco_wide.proofs.product.multiply.Given as goal

abbrev pub invariant-loop-i : goal.invariant-loop-i
invariant-loop-i l = Joins l.f.depth l.i l.x l.y l.room
