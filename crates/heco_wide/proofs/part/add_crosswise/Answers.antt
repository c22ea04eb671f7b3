use Rattle.std.proofs.Common.{◌^◌}
use Rattle.heco_ring.specs.Ring.{times}
use Rattle.heco_ring.proofs.Linear.{plus_assoc}
use Rattle.heco_wide.proofs.part.add_crosswise.Goals as goal

pub returns-clause-sum : goal.returns-clause-sum
returns-clause-sum c = λ s x y z w is ix iy iz iw.
    let n = 2 ^ c.args.f.now.depth in
    rw (← (plus_assoc n s (times n x w) (times n y z))) (c.add_product-2.ensures.sum _ y z (c.add_product.ensures.sum s x w is ix iw) iy iz)
