use Rattle.heco_nums.proofs.PresetFacts.{facts}
use Rattle.heco_bfv.proofs.Numbers.{scaled_below}
use Rattle.heco_bfv.proofs.linear.raised.Goals as goal

pub returns-clause-below : goal.returns-clause-below
returns-clause-below c = rw c.scaled.ensures (scaled_below c.args.p.now.t c.args.c c.requires (facts c.args.p.now).t_small)
