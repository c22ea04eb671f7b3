use Rattle.std.proofs.Common.{◌^◌, arith}
use Rattle.heco_transform.proofs.Words.{wholes_all}
use Rattle.heco_transform.proofs.transform.Transform.add_sums_into.Goals as goal

pub returns : goal.returns
returns c = λ S s. wholes_all (2 ^ c.args.self.now.depth) S s.low s.high c.words_of_sum.new.out c.words_of_sum-2.new.out c.args.out.now c.add_halves.new.out (omega (arith, c.add_halves.auto.out, c.requires.out))
    (c.words_of_sum.ensures s.low s.low_image (λ k l. omega (arith, s.low_small k l)))
    (c.words_of_sum-2.ensures s.high s.high_image (λ k l. omega (arith, s.high_small k l)))
    s.whole (λ k l. c.add_halves.ensures k (omega (arith, c.add_halves.auto.out, c.requires.out)))
