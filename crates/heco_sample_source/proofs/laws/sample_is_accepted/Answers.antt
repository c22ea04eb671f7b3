use Rattle.heco_sample_source.proofs.Sources.{text_accepted}
use Rattle.heco_sample_source.proofs.laws.sample_is_accepted.Goals as goal

pub returns : goal.returns
returns c = text_accepted
