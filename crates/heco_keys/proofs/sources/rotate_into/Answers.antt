use Rattle.std.proofs.Common.{◌≡◌, length, arith}
use Rattle.heco_keys.proofs.KeySteps.{turned_is}
use Rattle.heco_keys.proofs.sources.rotate_into.Goals as goal

pub returns-clause-value : goal.returns-clause-value
returns-clause-value c =
    let n = c.args.p.now.n in
    let ls : length c.args.small.now ≡ n = omega arith in
    let lm : length c.small_into.new.out ≡ n = omega arith in
    let s = rw ls at c.small_into.ensures.value in
    let x = rw lm at c.turn_into.ensures.value in
    turned_is n c.args.r c.exponent.result c.args.s.now c.small_into.new.out c.turn_into.new.out s c.exponent.ensures.value x
