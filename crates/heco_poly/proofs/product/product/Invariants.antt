use Rattle.std.proofs.Common.{length}
use Rattle.heco_ring.specs.Ring.{wholes}
use Rattle.heco_poly.proofs.Products.{Gathered}
use Rattle.heco_poly.proofs.product.product.Given as goal

abbrev pub invariant-loop-i : goal.invariant-loop-i
invariant-loop-i l = Gathered (length l.a) l.i (wholes l.a) (wholes l.b) l.out
