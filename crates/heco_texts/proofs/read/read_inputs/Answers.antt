use Rattle.heco_texts.proofs.AnswerLaws.{reads, refuses}
use Rattle.heco_texts.proofs.FitLaws.{fits}
use Rattle.heco_texts.proofs.read.read_inputs.Goals as goal

pub returns-clause-fit : goal.returns-clause-fit
returns-clause-fit c = let read = rw c.as_slice.ensures at c.read_text.ensures.read in fits _ _ _ _ c.requires.names read

pub returns-clause-reads : goal.returns-clause-reads
returns-clause-reads c =
    let read = rw c.as_slice.ensures at c.read_text.ensures.read in
    let refused = rw c.as_slice.ensures at c.read_text.ensures.refused in
    reads _ _ _ _ read refused

pub returns-clause-refuses : goal.returns-clause-refuses
returns-clause-refuses c =
    let read = rw c.as_slice.ensures at c.read_text.ensures.read in
    let refused = rw c.as_slice.ensures at c.read_text.ensures.refused in
    refuses _ _ _ _ read refused
