use Rattle.std.proofs.Common.{◌≤◌, ◌^◌, arith}
use Rattle.heco_ring.specs.Ring.{plus, times}
use Rattle.heco_ring.proofs.Linear.{plus_assoc}
use Rattle.heco_wide.proofs.LimbLaws.{part_is_0, part_is_1, part_is_2, part_is_3, part_is_4}
use Rattle.heco_wide.proofs.part.add_part.Goals as goal

pub returns-in-0-clause-sum : goal.returns-in-0-clause-sum
returns-in-0-clause-sum c = λ s a b is ia ib.
    rw (c.in-0.is, part_is_0 (2 ^ c.args.f.now.depth) a b) (c.add_product.ensures.sum s a.low b.low is ia.low ib.low)

pub returns-in-1-clause-sum : goal.returns-in-1-clause-sum
returns-in-1-clause-sum c = λ s a b is ia ib.
    rw (c.in-1.is, part_is_1 (2 ^ c.args.f.now.depth) a b) (c.add_crosswise.ensures.sum s a.low a.middle b.low b.middle is ia.low ia.middle ib.low ib.middle)

pub returns-in-2-clause-sum : goal.returns-in-2-clause-sum
returns-in-2-clause-sum c = λ s a b is ia ib.
    let n = 2 ^ c.args.f.now.depth in
    let cross = plus n (times n a.low b.high) (times n a.high b.low) in
    rw (c.in-2.is, part_is_2 n a b, ← (plus_assoc n s cross (times n a.middle b.middle)))
    (c.add_product-in-2.ensures.sum _ a.middle b.middle (c.add_crosswise-in-2.ensures.sum s a.low a.high b.low b.high is ia.low ia.high ib.low ib.high) ia.middle ib.middle)

pub returns-in-3-clause-sum : goal.returns-in-3-clause-sum
returns-in-3-clause-sum c = λ s a b is ia ib.
    rw (c.in-3.is, part_is_3 (2 ^ c.args.f.now.depth) a b) (c.add_crosswise-in-3.ensures.sum s a.middle a.high b.middle b.high is ia.middle ia.high ib.middle ib.high)

pub returns-in_default-clause-sum : goal.returns-in_default-clause-sum
returns-in_default-clause-sum c = λ s a b is ia ib.
    let past : 4 ≤ c.args.j = omega (arith, c.in_default) in
    rw (part_is_4 (2 ^ c.args.f.now.depth) c.args.j a b past) (c.add_product-in_default.ensures.sum s a.high b.high is ia.high ib.high)
