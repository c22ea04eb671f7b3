use Rattle.std.proofs.Common.{arith}
use Rattle.heco_measure.proofs.Settled.{settled_low, settled_high}
use Rattle.heco_measure.proofs.settling.settled.Goals as goal

pub returns-then-x-clause-value : goal.returns-then-x-clause-value
returns-then-x-clause-value c = rw (c.from-t.ensures) (settled_low c.args.t c.args.x c.if-x.true)

pub returns-else-x-clause-value : goal.returns-else-x-clause-value
returns-else-x-clause-value c = rw (c.from-t.ensures) (settled_high c.args.t c.args.x c.requires.t (omega (arith, c.if-x.false)) c.requires.x)
