use Rattle.std.proofs.Common.{length}
use Rattle.heco_jobs.proofs.finishing.+finish.Given as goal

abbrev pub decreases-finish : goal.decreases-finish
decreases-finish g l = length l.writes.now
