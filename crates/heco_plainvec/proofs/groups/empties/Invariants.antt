use Rattle.std.proofs.Common.{◌≡◌, [], replicate}
use Rattle.heco_plainvec.proofs.groups.empties.Given as goal

abbrev pub invariant-loop : goal.invariant-loop
invariant-loop g l = l.lists.items ≡ replicate l.counter []
