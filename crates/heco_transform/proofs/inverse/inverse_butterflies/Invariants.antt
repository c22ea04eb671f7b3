use Rattle.std.proofs.Common.{length}
use Rattle.heco_transform.proofs.Butterflies.{Join}
use Rattle.heco_transform.proofs.inverse.inverse_butterflies.Given as goal

abbrev pub invariant-loop-i : goal.invariant-loop-i
invariant-loop-i l = Join (length l.fn.low) l.i l.s l.bound l.fn.low l.fn.high l.low l.high
