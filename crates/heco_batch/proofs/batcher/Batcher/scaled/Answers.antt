use Rattle.heco_batch.proofs.batcher.Batcher.scaled.Goals as goal

pub returns-clause-fits : goal.returns-clause-fits
returns-clause-fits c = λ es h. c.put.ensures.fits c.args.self.slots c.args.self.modulus es (c.requires.some, c.requires.constant) h
