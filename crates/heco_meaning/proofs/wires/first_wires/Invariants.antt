use Rattle.std.proofs.Common.{◌≡◌, ◌++◌, ◌+◌, ◌-◌, length, map}
use Rattle.heco_meaning.specs.Meanings.{filled}
use Rattle.heco_meaning.proofs.wires.first_wires.Given as goal

abbrev pub invariant-loop-rest : goal.invariant-loop-rest
invariant-loop-rest l = l.wires ++ map (filled l.slots) l.rest ≡ map (filled l.slots) l.rows

abbrev pub decreases-loop-rest : goal.decreases-loop-rest
decreases-loop-rest l = length l.rest
