use Rattle.std.proofs.Common.{◌^◌}
use Rattle.heco_ring.specs.Ring.{wholes, plus, times}
use Rattle.heco_transform.specs.Images.{bit_fields}
use Rattle.heco_transform.proofs.HalfLaws.{whole_more, size_more, short}
use Rattle.heco_transform.proofs.transform.Transform.add_row.Goals as goal

pub returns-clause-sums : goal.returns-clause-sums
returns-clause-sums c = λ S D K s d small h.
    let n = short c.args.self.now.depth c.args.self.now.short in
    record {
      low = plus (2 ^ c.args.self.now.depth) s.low (times (2 ^ c.args.self.now.depth) D (wholes (bit_fields 0 29 K)));
      high = plus (2 ^ c.args.self.now.depth) s.high (times (2 ^ c.args.self.now.depth) D (wholes (bit_fields 29 29 K)));
      low_image = c.add_product.ensures.sum s.low D (wholes (bit_fields 0 29 K)) s.low_image d h.low;
      high_image = c.add_product-2.ensures.sum s.high D (wholes (bit_fields 29 29 K)) s.high_image d h.high;
      whole = λ k l. whole_more (2 ^ c.args.self.now.depth) k S D s.low s.high K h.long h.below l (s.whole k l);
      low_small = λ k l. rw c.add_product.ensures.one_more (size_more (2 ^ c.args.self.now.depth) 0 k _ D s.low K n h.long small l (s.low_small k l));
      high_small = λ k l. rw c.add_product.ensures.one_more (size_more (2 ^ c.args.self.now.depth) 29 k _ D s.high K n h.long small l (s.high_small k l));
    }
