use Rattle.std.proofs.Common.{◌^◌, arith}
use lib.IntN.{pos}
use Rattle.heco_ring.specs.Ring.{table}
use Rattle.heco_transform.proofs.HalfLaws.{short}
use Rattle.heco_transform.proofs.LimbLaws.{one_size}
use Rattle.heco_transform.proofs.transform.Transform.low_limb.Goals as goal

pub returns-clause-value : goal.returns-clause-value
returns-clause-value c = λ a b _ d e f p q.
    c.words_of_sum.ensures _ (c.add_product.ensures.sum (table (2 ^ c.args.self.now.depth) (λ k. pos 0)) a d c.clear.ensures.zero p.low q.low)
    (λ k l. omega (arith, one_size (2 ^ c.args.self.now.depth) k a d (short c.args.self.now.depth c.args.self.now.short) p.low_small q.low_small l))
