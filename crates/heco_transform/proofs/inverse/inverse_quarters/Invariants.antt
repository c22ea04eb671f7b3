use Rattle.std.proofs.Common.{length}
use Rattle.heco_transform.proofs.QuartersBack.{Back}
use Rattle.heco_transform.proofs.inverse.inverse_quarters.Given as goal

abbrev pub invariant-loop-i : goal.invariant-loop-i
invariant-loop-i l = Back (length l.fn.first) l.i l.s l.u l.v l.fn.first l.fn.second l.fn.third l.fn.fourth l.first l.second l.third l.fourth
