use Rattle.std.proofs.Common.{◌≡◌}
use Rattle.heco_scheme.specs.Noise.{greatest}
use Rattle.heco_measure.proofs.Gaps.{gap_at}
use Rattle.heco_measure.proofs.noise.greatest_gap.Given as goal

abbrev pub invariant-loop-k : goal.invariant-loop-k
invariant-loop-k l = l.most ≡ greatest l.k (gap_at l.t l.z l.m)
