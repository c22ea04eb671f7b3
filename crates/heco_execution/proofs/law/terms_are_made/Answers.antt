use Rattle.heco_execution.proofs.Made.{terms_are_made}
use Rattle.heco_execution.proofs.law.terms_are_made.Goals as goal

pub returns : goal.returns
returns c = terms_are_made
