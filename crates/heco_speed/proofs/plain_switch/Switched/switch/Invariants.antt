use Rattle.std.proofs.Common.{◌≡◌, length}
use Rattle.heco_speed.proofs.plain_switch.Switched.switch.Given as goal

abbrev pub invariant-loop-i : goal.invariant-loop-i
invariant-loop-i l = length l.self.digits.whole ≡ length l.fn.self.digits.whole
