use Rattle.heco_plainvec.proofs.Meaning.{same_meaning}
use Rattle.heco_plainvec.proofs.laws.gathered_circuits_mean_the_same.Goals as goal

pub returns : goal.returns
returns c = λ k rows valid count. same_meaning k rows valid count
