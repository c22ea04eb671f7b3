use Rattle.std.proofs.Common.{rules, ◌≡◌, length, arith}
use Rattle.heco_digit.proofs.DigitSums.{lane_digit}
use Rattle.heco_digit.proofs.digits.lane_digits.Goals as goal

pub returns-clause-value : goal.returns-clause-value
returns-clause-value c = λ j h.
    let long : length c.args.x ≡ 4 = search rules in
    lane_digit c.args.x c.args.i c.from.result j long (omega arith) h

pub returns-clause-small : goal.returns-clause-small
returns-clause-small c = λ j h.
    let long : length c.args.x ≡ 4 = search rules in
    let e = lane_digit c.args.x c.args.i c.from.result j long (omega arith) h in
    omega (arith, e)
