use Rattle.std.proofs.Common.{rules, ◌≡◌, ◌*◌, ◌+◌, length, arith}
use Rattle.heco_digit.proofs.DigitSums.{digits_filled, digits_four}
use Rattle.heco_digit.proofs.digits.digits_into.Goals as goal

pub loop-four-preserved : goal.loop-four-preserved
loop-four-preserved c =
    let lanes : length c.four_digits.result ≡ 4 = search rules in
    let next : 4 * (c.loop-four.four + 1) ≡ 4 * c.loop-four.four + 4 = omega arith in
    rw next (digits_four (4 * c.loop-four.four) c.args.i c.args.a.now c.loop-four.out c.set_four.new.self c.four_digits.result lanes (omega (arith, c.loop-four.invariant.long)) c.set_four.ensures.value c.loop-four.invariant (rw c.as_slice.ensures.value at c.four_digits.ensures.value))

pub returns-clause-value : goal.returns-clause-value
returns-clause-value c = digits_filled (length c.args.a.now) c.args.i c.args.a.now c.loop-k.out c.loop-k.invariant.long (λ k h. c.loop-k.invariant.done k (omega arith))
