use Rattle.std.proofs.Common.{◌≡◌, ◌<◌, ◌^◌, ℕ, length, get_or}
use Rattle.heco_ring.specs.Remainders.{rem}
use Rattle.heco_ring.specs.Ring.{wholes, times_at}
use Rattle.heco_poly.proofs.plain.product.Given as goal

abbrev pub invariant-loop-k : goal.invariant-loop-k
invariant-loop-k l = (i : ℕ) → i < l.k → get_or l.out i 0 ≡ rem (2 ^ 58) (times_at (length l.a) (wholes l.a) (wholes l.b) i)
