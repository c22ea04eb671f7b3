use Rattle.std.proofs.Common.{◌≡◌, length, arith, ◌∙◌}
use Rattle.heco_transform.proofs.Butterflies.{join_more}
use Rattle.heco_transform.proofs.inverse.inverse_butterflies.Goals as goal

pub loop-i-preserved : goal.loop-i-preserved
loop-i-preserved c =
    let high : length c.loop-i.high ≡ length c.args.low.now = c.loop-i.auto.high ∙ c.requires.long in
    join_more (length c.args.low.now) c.loop-i.i c.args.s c.args.bound c.times-z.result c.args.low.now c.args.high.now c.loop-i.low c.loop-i.high
    (omega arith) c.loop-i.auto.low high c.requires.multiple (c.requires.low_room c.loop-i.i (omega arith)) (c.requires.high_room c.loop-i.i (omega arith)) c.loop-i.invariant c.times-z.ensures.value c.times-z.ensures.below
