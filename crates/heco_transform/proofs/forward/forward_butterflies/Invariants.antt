use Rattle.std.proofs.Common.{length}
use Rattle.heco_transform.proofs.Butterflies.{Split}
use Rattle.heco_transform.proofs.forward.forward_butterflies.Given as goal

abbrev pub invariant-loop-i : goal.invariant-loop-i
invariant-loop-i l = Split (length l.fn.low) l.i l.s l.fn.low l.fn.high l.low l.high
