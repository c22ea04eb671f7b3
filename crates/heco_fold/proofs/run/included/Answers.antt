use Rattle.heco_fold.proofs.Folding.{none_included, some_included, low_turn}
use Rattle.heco_fold.proofs.run.included.Goals as goal

pub returns-in-None-clause-fold : goal.returns-in-None-clause-fold
returns-in-None-clause-fold c = λ v bit n p l. none_included p (rw c.in-None.is at l)

pub returns-in-Some-clause-fold : goal.returns-in-Some-clause-fold
returns-in-Some-clause-fold c = λ v bit n p l. rw (some_included p (rw c.in-Some.is at l)) at c.beside.ensures.term

pub returns-in-Some-clause-fits : goal.returns-in-Some-clause-fits
returns-in-Some-clause-fits c = λ v bit n slots modulus es p l le h.
    let (some, most) = low_turn slots p (rw c.in-Some.is at l) le in
    c.beside.ensures.fits slots modulus es some most h
