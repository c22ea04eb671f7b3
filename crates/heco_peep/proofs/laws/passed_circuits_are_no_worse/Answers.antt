use Rattle.heco_peep.proofs.InOrder.{passed_no_worse}
use Rattle.heco_peep.proofs.laws.passed_circuits_are_no_worse.Goals as goal

pub returns : goal.returns
returns c = λ p d handed q h few. passed_no_worse p d handed q h few
