use Rattle.std.proofs.Common.{arith}
use Rattle.heco_written.specs.WrittenForm.{places}
use Rattle.heco_batch.specs.inside.Sums.{ArePlaces}
use Rattle.heco_batch.proofs.HomesAdded.{unshifted, shifted}
use Rattle.heco_written.specs.WrittenForm.{constant}
use Rattle.std.proofs.Math.Nat.{mod-lt}
use Rattle.std.proofs.Common.{◌<◌, ◌%◌}
use Rattle.heco_batch.proofs.batcher.Batcher.finished.Goals as goal

pub returns-then-s-eq0-clause-home : goal.returns-then-s-eq0-clause-home
returns-then-s-eq0-clause-home c = λ hs i.
    let are : ArePlaces c.args.c.now c.args.self.slots c.in-Some.places (places hs) = rw c.in-Some.is at i.places_are in
    unshifted hs c.in-Some.places i are c.if-s-eq0.true

pub returns-clause-home : goal.returns-clause-home
returns-clause-home c = λ hs i.
    let are : ArePlaces c.args.c.now c.args.self.slots c.in-Some.places (places hs) = rw c.in-Some.is at i.places_are in
    shifted hs c.in-Some.places c.in_ok-node.node i are (omega arith) c.in_ok-node.ensures.term

pub returns-clause-fits : goal.returns-clause-fits
returns-clause-fits c = λ es h.
    let (hs, i) = c.requires.sum in
    let below : constant hs % c.args.self.modulus < c.args.self.modulus = mod-lt (constant hs) c.args.self.some in
    c.put.ensures.fits c.args.self.slots c.args.self.modulus es (omega arith, omega (arith, i.constant_is, below)) h
