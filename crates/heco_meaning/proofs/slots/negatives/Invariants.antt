use Rattle.std.proofs.Common.{◌≡◌, ◌++◌, ◌+◌, ◌-◌, length, map}
use Rattle.std.specs.Prelude.{◌%◌}
use Rattle.heco_meaning.proofs.slots.negatives.Given as goal

abbrev pub invariant-loop-rest : goal.invariant-loop-rest
invariant-loop-rest l = l.out ++ map (λ x. (l.t - x) % l.t) l.rest ≡ map (λ x. (l.t - x) % l.t) l.xs

abbrev pub decreases-loop-rest : goal.decreases-loop-rest
decreases-loop-rest l = length l.rest
