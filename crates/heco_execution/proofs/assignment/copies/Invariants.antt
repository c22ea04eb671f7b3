use Rattle.std.proofs.Common.{◌≡◌, replicate}
use Rattle.heco_execution.proofs.assignment.copies.Given as goal

abbrev pub invariant-loop : goal.invariant-loop
invariant-loop g l = l.list ≡ replicate l.counter l.v
