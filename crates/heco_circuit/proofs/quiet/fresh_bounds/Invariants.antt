use Rattle.std.proofs.Common.{◌≡◌, ◌++◌, length, All}
use Rattle.heco_noise.specs.Rows.{IsQuiet}
use Rattle.heco_circuit.specs.Bounds.{fresh_bounds}
use Rattle.heco_circuit.proofs.quiet.fresh_bounds.Given as goal

abbrev pub invariant-loop-rest : goal.invariant-loop-rest
invariant-loop-rest l = (l.bounds ++ fresh_bounds l.p.id l.rest ≡ fresh_bounds l.p.id l.inputs) × All IsQuiet l.bounds

abbrev pub decreases-loop-rest : goal.decreases-loop-rest
decreases-loop-rest l = length l.rest
