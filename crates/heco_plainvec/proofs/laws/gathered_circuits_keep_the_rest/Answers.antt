use Rattle.heco_plainvec.proofs.KeptLaw.{keeps_the_rest}
use Rattle.heco_plainvec.proofs.laws.gathered_circuits_keep_the_rest.Goals as goal

pub returns : goal.returns
returns c = λ k valid. keeps_the_rest k valid
