use Rattle.heco_end_to_end.proofs.MeasuredRuns.{measured_within}
use Rattle.heco_end_to_end.proofs.laws.measured_runs_keep_to_their_bounds.Goals as goal

pub returns : goal.returns
returns c = λ p circuit k material messages given many are. measured_within p circuit k material messages given many are
