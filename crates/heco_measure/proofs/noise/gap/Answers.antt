use Rattle.std.proofs.Common.{arith}
use Rattle.heco_measure.proofs.Gaps.{gap_low, gap_high}
use Rattle.heco_measure.proofs.noise.gap.Goals as goal

pub returns-then-rest-whole : goal.returns-then-rest-whole
returns-then-rest-whole c = gap_low c.args.t c.args.z c.args.m c.from-t.result c.from.result c.from-2.result c.requires.t_pos c.requires.m c.from-t.ensures c.from.ensures c.from-2.ensures c.if-rest-whole.true

pub returns-else-rest-whole : goal.returns-else-rest-whole
returns-else-rest-whole c = gap_high c.args.t c.args.z c.args.m c.from-t.result c.from.result c.from-2.result c.requires.t_pos c.requires.m c.from-t.ensures c.from.ensures c.from-2.ensures (omega (arith, c.if-rest-whole.false))
