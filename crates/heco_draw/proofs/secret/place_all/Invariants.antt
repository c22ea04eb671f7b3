use Rattle.std.proofs.Common.{length}
use Rattle.heco_draw.proofs.Placed.{Placing}
use Rattle.heco_draw.proofs.secret.place_all.Given as goal

abbrev pub invariant-loop-i : goal.invariant-loop-i
invariant-loop-i l = Placing (length l.fn.secret) l.fn.rng l.fn.secret l.i l.secret l.rng
