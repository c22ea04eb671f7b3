use Rattle.std.proofs.Common.{◌≡◌, length, arith}
use Rattle.heco_keys.proofs.KeySteps.{masked_is}
use Rattle.heco_keys.proofs.masked.mask.Goals as goal

pub returns-clause-value : goal.returns-clause-value
returns-clause-value c =
    let n = c.args.p.now.n in
    let la : length c.args.a.now ≡ n = omega arith in
    let le : length c.args.error.now ≡ n = omega arith in
    let lm : length c.mul_sparse_into.new.out ≡ n = omega arith in
    let ls : length c.add_in.new.self ≡ n = omega arith in
    let x = rw la at c.mul_sparse_into.ensures.value in
    let e = rw le at c.small_into.ensures.value in
    let y = rw lm at c.add_in.ensures.value in
    let z = rw ls at c.neg_in.ensures.value in
    masked_is n c.args.s.now c.args.e.now c.args.a.now c.mul_sparse_into.new.out c.small_into.new.out c.add_in.new.self c.neg_in.new.self x e y z
