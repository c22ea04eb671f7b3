use Rattle.heco_plainvec.proofs.NothingMore.{nothing_more}
use Rattle.heco_plainvec.proofs.laws.nothing_more_is_found.Goals as goal

pub returns : goal.returns
returns c = λ k a valid. nothing_more k a valid
