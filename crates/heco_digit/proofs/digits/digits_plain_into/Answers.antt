use Rattle.std.proofs.Common.{length, arith}
use Rattle.heco_digit.proofs.DigitSums.{digits_filled}
use Rattle.heco_digit.proofs.digits.digits_plain_into.Goals as goal

pub returns-clause-value : goal.returns-clause-value
returns-clause-value c = digits_filled (length c.args.a.now) c.args.i c.args.a.now c.loop-k.out c.loop-k.invariant.long (λ k h. c.loop-k.invariant.done k (omega arith))
