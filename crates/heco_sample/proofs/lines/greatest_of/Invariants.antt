use Rattle.std.proofs.Common.{◌≡◌, length}
use Rattle.std.specs.Prelude.{max}
use Rattle.heco_written.specs.Bound.{greatest_of}
use Rattle.heco_sample.proofs.lines.greatest_of.Given as goal

abbrev pub invariant-loop-rest : goal.invariant-loop-rest
invariant-loop-rest l = max l.greatest (greatest_of l.rest) ≡ greatest_of l.bounds

abbrev pub decreases-loop-rest : goal.decreases-loop-rest
decreases-loop-rest l = length l.rest
