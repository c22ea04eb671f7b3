use Rattle.std.proofs.Common.{◌^◌, arith}
use lib.IntN.{pos}
use Rattle.heco_ring.specs.Ring.{table, plus, times}
use Rattle.heco_transform.proofs.HalfLaws.{short}
use Rattle.heco_transform.proofs.LimbLaws.{one_size, more_size}
use Rattle.heco_transform.proofs.transform.Transform.middle_limb.Goals as goal

pub returns-clause-value : goal.returns-clause-value
returns-clause-value c = λ x y _ z w _ p q.
    let n = 2 ^ c.args.self.now.depth in
    let short_n = short c.args.self.now.depth c.args.self.now.short in
    let s = c.add_product.ensures.sum (table (2 ^ c.args.self.now.depth) (λ k. pos 0)) x w c.clear.ensures.zero p.low q.middle in
    c.words_of_sum.ensures _ (c.add_product-2.ensures.sum (plus n (table n (λ k. pos 0)) (times n x w)) y z s p.middle q.low)
    (λ k l. omega (arith, more_size (2 ^ c.args.self.now.depth) k (2 ^ 50) (plus n (table n (λ k. pos 0)) (times n x w)) y z short_n p.middle_small q.low_small l (one_size (2 ^ c.args.self.now.depth) k x w short_n p.low_small q.middle_small l)))
