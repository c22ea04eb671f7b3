use Rattle.heco_digit.proofs.DigitSums.{digit_is}
use Rattle.heco_digit.proofs.digits.digit.Goals as goal

pub returns-clause-value : goal.returns-clause-value
returns-clause-value c = digit_is c.args.x c.args.i
