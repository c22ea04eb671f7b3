use Rattle.heco_batch.proofs.HomesAdded.{number_added, place_home_added}
use Rattle.heco_batch.proofs.batcher.Batcher.member_added.Goals as goal

pub returns-in-Number-clause-sum : goal.returns-in-Number-clause-sum
returns-in-Number-clause-sum c = λ hs k i h. number_added c.in-Number.d k i (rw c.in-Number.is at h)

pub returns-in_ok-places-in-At-clause-sum : goal.returns-in_ok-places-in-At-clause-sum
returns-in_ok-places-in-At-clause-sum c = λ hs k i h. place_home_added c.in-At.p c.in_ok-places-in-At.places k i (rw c.in-At.is at h) c.in_ok-places-in-At.ensures.places

pub returns-in_ok-places-in-At-clause-fits : goal.returns-in_ok-places-in-At-clause-fits
returns-in_ok-places-in-At-clause-fits c = λ es h. c.place_added.ensures.fits c.args.self.modulus es h

pub returns-in_err-places-in-At-clause-fits : goal.returns-in_err-places-in-At-clause-fits
returns-in_err-places-in-At-clause-fits c = λ es h. c.place_added.ensures.fits c.args.self.modulus es h
