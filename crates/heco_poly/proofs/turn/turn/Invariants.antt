use Rattle.std.proofs.Common.{◌^◌, length}
use Rattle.heco_poly.proofs.Changes.{Turned}
use Rattle.heco_poly.proofs.turn.turn.Given as goal

abbrev pub invariant-loop-i : goal.invariant-loop-i
invariant-loop-i l = Turned (2 ^ 58) (length l.a) l.g l.i l.a l.out
