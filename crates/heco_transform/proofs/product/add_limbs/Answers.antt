use Rattle.std.proofs.Common.{length, arith}
use Rattle.heco_transform.proofs.LimbLaws.{limbed_more}
use Rattle.heco_transform.proofs.product.add_limbs.Goals as goal

pub loop-i-preserved : goal.loop-i-preserved
loop-i-preserved c = limbed_more c.loop-i.i (length c.args.out.now) c.limbs_together.result c.args.y.now c.args.z.now c.args.out.now c.loop-i.out (omega arith) c.loop-i.auto.out c.loop-i.invariant c.limbs_together.ensures
