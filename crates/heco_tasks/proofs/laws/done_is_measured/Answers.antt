use Rattle.heco_tasks.proofs.MeasuredFileLaws.{done_is_within}
use Rattle.heco_tasks.proofs.MeasureLaws.{done_is_measured}
use Rattle.heco_tasks.proofs.laws.done_is_measured.Goals as goal

pub returns : goal.returns
returns c = record { measured = done_is_measured; within = done_is_within }
