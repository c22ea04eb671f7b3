use Rattle.std.proofs.Common.{◌≡◌, length}
use Rattle.heco_speed.proofs.fill.fill.Given as goal

abbrev pub invariant-loop-k : goal.invariant-loop-k
invariant-loop-k l = length l.out ≡ length l.fn.out
