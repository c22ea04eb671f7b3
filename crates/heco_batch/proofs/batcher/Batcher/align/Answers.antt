use Rattle.std.proofs.Common.{◌<◌, ◌+◌, ◌-◌, ◌%◌, arith}
use Rattle.std.proofs.Math.Nat.{mod-lt}
use Rattle.heco_batch.proofs.batcher.Batcher.align.Goals as goal

pub returns-else-r-eq0-clause-fits : goal.returns-else-r-eq0-clause-fits
returns-else-r-eq0-clause-fits c = λ modulus es h.
    let below : (c.args.from.slot + (c.args.self.slots - c.args.to)) % c.args.self.slots < c.args.self.slots = mod-lt _ (omega arith) in
    c.put.ensures.fits c.args.self.slots modulus es (omega arith, below) h
