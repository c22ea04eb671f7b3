use Rattle.heco_good.proofs.PassedLaw.{passed_is_good}
use Rattle.heco_good.proofs.laws.passed_circuits_are_good.Goals as goal

pub returns : goal.returns
returns k = λ source c d handed left of few p. passed_is_good source c d handed left of few p
