use Rattle.std.proofs.Common.{◌≡◌, ◌+◌, ◌≤◌, length}
use Rattle.heco_nums.specs.Runs.{along}
use Rattle.heco_rewrites.specs.Needed.{kept}
use Rattle.heco_peep.specs.inside.Dropped.{kept_so_far, is_marked, sieve}
use Rattle.heco_peep.proofs.dropping.keep.Given as goal

abbrev pub invariant-loop-rest : goal.invariant-loop-rest
invariant-loop-rest l = record {
  sieved : along (kept (is_marked l.marks) l.inputs) (kept_so_far l.s) l.rest ≡ sieve l.marks l.inputs l.gates;
  few : length l.s.gates + length l.rest ≤ length l.gates;
}

abbrev pub decreases-loop-rest : goal.decreases-loop-rest
decreases-loop-rest l = length l.rest
