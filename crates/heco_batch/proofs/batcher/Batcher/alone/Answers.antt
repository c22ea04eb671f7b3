use Rattle.heco_batch.proofs.WrittenAdded.{number_alone, place_alone}
use Rattle.heco_batch.proofs.batcher.Batcher.alone.Goals as goal

pub returns-in-Number : goal.returns-in-Number
returns-in-Number c = λ k h. number_alone c.args.c.now c.args.self.slots c.args.self.modulus c.in-Number.d k (rw c.in-Number.is at h)

pub returns-in-At : goal.returns-in-At
returns-in-At c = λ k h. place_alone c.args.c.now c.args.self.slots c.args.self.modulus c.in-At.p k (rw c.in-At.is at h)
