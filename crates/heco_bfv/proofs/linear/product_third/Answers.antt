use Rattle.std.proofs.Common.{◌∙◌, length, None}
use Rattle.heco_ring.specs.Ring.{wholes}
use Rattle.heco_bfv.proofs.Seen.{third_product}
use Rattle.heco_bfv.proofs.linear.product_third.Goals as goal

pub returns-in-None : goal.returns-in-None
returns-in-None c =
    let e = rw (c.requires.m, c.requires.zero) at c.mul_into-in-None.ensures.value in
    rw c.in-None.is (e ∙ third_product (length c.args.out.now) (wholes c.args.m.now) None)
