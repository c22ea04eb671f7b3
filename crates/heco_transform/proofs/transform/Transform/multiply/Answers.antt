use Rattle.std.proofs.Common.{◌^◌, arith}
use Rattle.heco_transform.proofs.LimbLaws.{limbs_of, product_all}
use Rattle.heco_transform.proofs.transform.Transform.multiply.Goals as goal

pub returns-clause-value : goal.returns-clause-value
returns-clause-value c = λ a b x y.
    let n = 2 ^ c.args.self.now.depth in
    let p = limbs_of c.args.self.now.depth a c.args.x.now x in
    let q = limbs_of c.args.self.now.depth b c.args.y.now y in
    product_all n a b c.low_limb.new.out c.middle_limb.new.out c.high_limb.new.out c.add_limbs.new.out (omega (arith, c.add_limbs.auto.out, c.low_limb.auto.out, c.requires.out)) x.long y.long x.below y.below
    (c.low_limb.ensures.value _ _ _ _ _ _ p q) (c.middle_limb.ensures.value _ _ _ _ _ _ p q) (c.high_limb.ensures.value _ _ _ _ _ _ p q)
    (λ k l. c.add_limbs.ensures k (omega (arith, c.add_limbs.auto.out, c.low_limb.auto.out, c.requires.out)))
