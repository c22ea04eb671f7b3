use Rattle.std.proofs.Common.{◌≡◌, ◌^◌, length}
use Rattle.heco_ring.specs.Remainders.{rem}
use Rattle.heco_ring.specs.Ring.{wholes}
use Rattle.heco_ring.specs.Rows.{rows_at}
use Rattle.heco_poly.proofs.plain.coefficient.Given as goal

abbrev pub invariant-loop-i : goal.invariant-loop-i
invariant-loop-i l = l.sum ≡ rem (2 ^ 58) (rows_at (length l.a) (wholes l.a) (wholes l.b) l.i l.k)
