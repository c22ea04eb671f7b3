use Rattle.std.proofs.Common.{◌≡◌, length, arith, ◌∙◌}
use Rattle.heco_transform.proofs.Butterflies.{split_more}
use Rattle.heco_transform.proofs.forward.forward_butterflies.Goals as goal

pub loop-i-preserved : goal.loop-i-preserved
loop-i-preserved c =
    let high : length c.loop-i.high ≡ length c.args.low.now = c.loop-i.auto.high ∙ c.requires.long in
    split_more (length c.args.low.now) c.loop-i.i c.args.s c.times-y.result c.args.low.now c.args.high.now c.loop-i.low c.loop-i.high
    (omega arith) c.loop-i.auto.low high c.loop-i.invariant c.times-y.ensures.value c.times-y.ensures.below
