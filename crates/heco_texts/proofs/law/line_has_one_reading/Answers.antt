use Rattle.heco_texts.proofs.FormLaws.{assignment_found, assignment_is, idle_found, idle_is}
use Rattle.heco_texts.proofs.law.line_has_one_reading.Goals as goal

pub returns-clause-assignment : goal.returns-clause-assignment
returns-clause-assignment c = λ name numbers. (assignment_found _ name numbers, assignment_is _ name numbers)

pub returns-clause-idle : goal.returns-clause-idle
returns-clause-idle c = (idle_found _, idle_is _)
