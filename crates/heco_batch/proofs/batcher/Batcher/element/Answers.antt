use Rattle.heco_ir.proofs.Extended.{gates-input}
use Rattle.heco_batch.proofs.batcher.Batcher.element.Goals as goal

pub returns-clause-free : goal.returns-clause-free
returns-clause-free c = gates-input c.args.c.now c.put.new.self c.args.a c.put.ensures.adds

pub returns-clause-fits : goal.returns-clause-fits
returns-clause-fits c = λ es k h. c.put.ensures.fits c.args.self.slots c.args.self.modulus es (c.args.i, k) h
