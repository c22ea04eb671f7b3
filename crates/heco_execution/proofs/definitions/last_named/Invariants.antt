use Rattle.std.proofs.Common.{◌≡◌, length}
use Rattle.heco_execution.specs.Definitions.{last_named}
use Rattle.heco_execution.proofs.definitions.last_named.Given as goal

abbrev pub invariant-loop-d : goal.invariant-loop-d
invariant-loop-d l = last_named l.name l.defs ≡ last_named l.name l.rest

abbrev pub decreases-loop-d : goal.decreases-loop-d
decreases-loop-d l = length l.rest
