use Rattle.std.proofs.Common.{◌∙◌, arith}
use Rattle.heco_measure.proofs.Settled.{settle_filled}
use Rattle.heco_measure.proofs.settling.settle.Goals as goal

pub returns : goal.returns
returns c =
    settle_filled c.args.p.now.t c.args.p.now.n c.args.x.now c.loop-k.x (c.loop-k.invariant.long ∙ c.requires) (λ i h. c.loop-k.invariant.done i (omega (arith, h, c.loop-k-test.false, c.loop-k.auto.k-end)))
