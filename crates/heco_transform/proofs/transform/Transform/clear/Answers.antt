use Rattle.std.proofs.Common.{length, arith}
use lib.ListN.{drop}
use Rattle.heco_transform.specs.Modulus.{modulus}
use Rattle.heco_transform.proofs.ImageLaws.{image_of_values}
use Rattle.heco_transform.proofs.Written.{front, values_zero}
use Rattle.heco_transform.proofs.transform.Transform.clear.Goals as goal

pub invariant_of-sum : goal.invariant_of-sum
invariant_of-sum c =
    let w = front c.args.sum.now.words.len c.zero_all.new.sums (drop (length c.zero_all.new.sums) c.args.sum.now.words.items) (omega arith) in
    record { below = rw w (λ k l. omega (arith, c.zero_all.ensures k l)) }

pub returns-clause-zero : goal.returns-clause-zero
returns-clause-zero c =
    let w = front c.args.sum.now.words.len c.zero_all.new.sums (drop (length c.zero_all.new.sums) c.args.sum.now.words.items) (omega arith) in
    rw w (image_of_values _ c.args.self.now.roots.items _ c.zero_all.new.sums c.args.self.now.of_psi (values_zero modulus _ 1 c.args.self.now.roots.items c.zero_all.new.sums (λ k l. c.zero_all.ensures k (omega (arith, c.requires)))))
