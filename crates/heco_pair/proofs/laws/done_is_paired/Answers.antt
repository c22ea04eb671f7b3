use Rattle.heco_pair.proofs.Apart.{distinct_are_apart}
use Rattle.heco_pair.proofs.Paired.{done_is_paired}
use Rattle.heco_pair.proofs.laws.done_is_paired.Goals as goal

pub returns : goal.returns
returns c = record { done = done_is_paired; apart = distinct_are_apart }
