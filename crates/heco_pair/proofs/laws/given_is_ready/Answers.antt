use Rattle.heco_pair.proofs.Ready.{given_is_ready}
use Rattle.heco_pair.proofs.laws.given_is_ready.Goals as goal

pub returns : goal.returns
returns c = given_is_ready
