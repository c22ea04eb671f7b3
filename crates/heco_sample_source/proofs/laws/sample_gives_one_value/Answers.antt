use Rattle.heco_sample_source.proofs.Sources.{two_rows_fit, gives_one_value}
use Rattle.heco_sample_source.proofs.laws.sample_gives_one_value.Goals as goal

pub returns : goal.returns
returns c = record { fit = two_rows_fit; value = gives_one_value }
