use Rattle.std.proofs.Common.{length}
use Rattle.heco_ring.specs.Ring.{wholes}
use Rattle.heco_poly.proofs.Products.{Gathered}
use Rattle.heco_poly.proofs.sparse.sparse.Given as goal

abbrev pub invariant-loop-i : goal.invariant-loop-i
invariant-loop-i l = Gathered (length l.b) l.i l.small (wholes l.b) l.out
