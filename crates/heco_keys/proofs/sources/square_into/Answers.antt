use Rattle.std.proofs.Common.{◌≡◌, length, arith}
use Rattle.heco_keys.proofs.KeySteps.{squared_is}
use Rattle.heco_keys.proofs.sources.square_into.Goals as goal

pub returns-clause-value : goal.returns-clause-value
returns-clause-value c =
    let n = c.args.p.now.n in
    let ls : length c.args.small.now ≡ n = omega arith in
    let lm : length c.small_into.new.out ≡ n = omega arith in
    let s = rw ls at c.small_into.ensures.value in
    let x = rw lm at c.mul_sparse_into.ensures.value in
    squared_is n c.args.s.now c.small_into.new.out c.mul_sparse_into.new.out s x
