use Rattle.std.proofs.Common.{◌^◌, length, get_or}
use lib.IntN.{pos, ◌-ℤ◌}
use Rattle.heco_ring.specs.Remainders.{rem}
use Rattle.heco_poly.proofs.Changes.{Changed}
use Rattle.heco_poly.proofs.sub.sub.Given as goal

abbrev pub invariant-loop-i : goal.invariant-loop-i
invariant-loop-i l = Changed (length l.fn.a) l.i l.fn.a l.a (λ k x. rem (2 ^ 58) (pos x -ℤ pos (get_or l.b k 0)))
