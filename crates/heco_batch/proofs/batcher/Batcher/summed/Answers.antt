use Rattle.std.proofs.Common.{[], ◌∷◌, ◌++◌}
use Rattle.heco_written.specs.WrittenForm.{written}
use Rattle.heco_batch.specs.inside.Homes.{SumIs}
use Rattle.heco_batch.proofs.WrittenAdded.{sum_stands}
use Rattle.std.proofs.Common.{arith}
use Rattle.heco_ir.proofs.Extended.{extends_length, extends_more}
use Rattle.heco_batch.proofs.batcher.Batcher.summed.Goals as goal

pub finished-requires-clause-sum : goal.finished-requires-clause-sum
finished-requires-clause-sum c =
    let (t, i) = c.requires.left in
    let (u, j) = c.requires.right in
    (_, c.in_ok-members.ensures.sum _ _ (c.members_of-before.ensures t i) j.home_is)

pub returns-clause-written : goal.returns-clause-written
returns-clause-written c = λ t u i j.
    let all : SumIs c.member_added.new.c c.args.self.slots c.args.self.modulus c.in_ok-members.members ((written c.args.self.modulus c.args.self.slots t).members ++ (written c.args.self.modulus c.args.self.slots u).home ∷ []) =
    c.in_ok-members.ensures.sum _ _ (c.members_of-before.ensures t i) j.home_is in
    record { home_is = c.in_ok-home.ensures.home _ all; members_are = sum_stands c.finished.ensures.stands all }

pub finished-requires-clause-room : goal.finished-requires-clause-room
finished-requires-clause-room c = omega (arith, (extends_length c.member_added.ensures.stands).1)

pub returns-clause-stands : goal.returns-clause-stands
returns-clause-stands c = extends_more c.member_added.ensures.stands c.finished.ensures.stands

pub returns-in_err-home-clause-stands : goal.returns-in_err-home-clause-stands
returns-in_err-home-clause-stands c = extends_more c.member_added.ensures.stands c.finished.ensures.stands

pub returns-clause-fits : goal.returns-clause-fits
returns-clause-fits c = λ es h. c.finished.ensures.fits es (c.member_added.ensures.fits es h)

pub returns-in_err-home-clause-fits : goal.returns-in_err-home-clause-fits
returns-in_err-home-clause-fits c = λ es h. c.finished.ensures.fits es (c.member_added.ensures.fits es h)
