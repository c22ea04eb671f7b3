use Rattle.heco_plainvec.proofs.Valid.{gathered_valid}
use Rattle.heco_plainvec.proofs.laws.gathered_circuits_are_valid.Goals as goal

pub returns : goal.returns
returns c = λ k valid room. gathered_valid k valid room
