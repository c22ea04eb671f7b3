use Rattle.heco_good.proofs.GatheredLaw.{gathered_is_good}
use Rattle.heco_good.proofs.laws.gathered_circuits_are_good.Goals as goal

pub returns : goal.returns
returns c = λ source plan good light room. gathered_is_good source plan good light room
