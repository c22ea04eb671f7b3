use Rattle.heco_exec.proofs.Executed.{done_is_executed}
use Rattle.heco_exec.proofs.WrittenFiles.{distinct_are_apart}
use Rattle.heco_exec.proofs.laws.done_is_executed.Goals as goal

pub returns : goal.returns
returns c = record { done = done_is_executed; apart = distinct_are_apart }
