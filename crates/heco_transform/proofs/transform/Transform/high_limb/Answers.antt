use Rattle.std.proofs.Common.{◌+◌, ◌^◌, arith}
use lib.IntN.{pos}
use Rattle.heco_ring.specs.Ring.{table, plus, times}
use Rattle.heco_transform.proofs.HalfLaws.{short}
use Rattle.heco_transform.proofs.LimbLaws.{one_size, more_size}
use Rattle.heco_transform.proofs.transform.Transform.high_limb.Goals as goal

pub returns-clause-value : goal.returns-clause-value
returns-clause-value c = λ x y z u v w p q.
    let n = 2 ^ c.args.self.now.depth in
    let short_n = short c.args.self.now.depth c.args.self.now.short in
    let o = table n (λ k. pos 0) in
    let s = c.add_product.ensures.sum (table (2 ^ c.args.self.now.depth) (λ k. pos 0)) x w c.clear.ensures.zero p.low q.high in
    let r = c.add_product-2.ensures.sum (plus n (table n (λ k. pos 0)) (times n x w)) y v s p.middle q.middle in
    c.words_of_sum.ensures _ (c.add_product-3.ensures.sum (plus n (plus n (table n (λ k. pos 0)) (times n x w)) (times n y v)) z u r p.high q.low)
    (λ k l. omega (
      arith,
      more_size (2 ^ c.args.self.now.depth) k (2 ^ 50 + 2 ^ 50) (plus n (plus n (table n (λ k. pos 0)) (times n x w)) (times n y v)) z u short_n p.high_small q.low_small l
          (more_size (2 ^ c.args.self.now.depth) k (2 ^ 50) (plus n (table n (λ k. pos 0)) (times n x w)) y v short_n p.middle_small q.middle_small l (one_size (2 ^ c.args.self.now.depth) k x w short_n p.low_small q.high_small l)),
    ))
