use Rattle.heco_digit.proofs.DigitSums.{Digits}
use Rattle.heco_digit.proofs.digits.digits_plain_into.Given as goal

abbrev pub invariant-loop-k : goal.invariant-loop-k
invariant-loop-k l = Digits l.k l.i l.a l.out
