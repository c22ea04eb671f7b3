use Rattle.std.proofs.Common.{length, arith}
use Rattle.heco_transform.proofs.Words.{wholes_more}
use Rattle.heco_transform.proofs.half.add_halves.Goals as goal

pub loop-i-preserved : goal.loop-i-preserved
loop-i-preserved c = wholes_more c.loop-i.i (length c.args.out.now) c.halves_together.result c.args.low.now c.args.high.now c.args.out.now c.loop-i.out (omega arith) c.loop-i.auto.out c.loop-i.invariant c.halves_together.ensures
