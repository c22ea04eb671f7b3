use Rattle.std.proofs.Common.{◌*◌}
use Rattle.heco_digit.proofs.DigitSums.{Digits}
use Rattle.heco_digit.proofs.digits.digits_into.Given as goal

abbrev pub invariant-loop-four : goal.invariant-loop-four
invariant-loop-four l = Digits (4 * l.four) l.i l.a l.out

abbrev pub invariant-loop-k : goal.invariant-loop-k
invariant-loop-k l = Digits l.k l.i l.a l.out
