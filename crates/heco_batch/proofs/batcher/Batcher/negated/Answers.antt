use Rattle.heco_batch.proofs.batcher.Batcher.negated.Goals as goal

pub returns-in_ok-node-in-At-clause-fits : goal.returns-in_ok-node-in-At-clause-fits
returns-in_ok-node-in-At-clause-fits c = λ es h. c.put.ensures.fits c.args.self.slots c.args.self.modulus es tt h
