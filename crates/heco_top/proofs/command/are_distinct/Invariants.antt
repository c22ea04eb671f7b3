use Rattle.std.proofs.Common.{◌≡◌, length}
use Rattle.heco_jobs.specs.Words.{texts, are_distinct}
use Rattle.heco_top.proofs.command.are_distinct.Given as goal

abbrev pub invariant-loop-rest : goal.invariant-loop-rest
invariant-loop-rest l = are_distinct (texts l.rest) ≡ are_distinct (texts l.words)

abbrev pub decreases-loop-rest : goal.decreases-loop-rest
decreases-loop-rest l = length l.rest
