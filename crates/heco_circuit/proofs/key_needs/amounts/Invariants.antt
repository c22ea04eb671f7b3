use Rattle.std.proofs.Common.{◌≡◌, ◌-◌, ◌++◌}
use Rattle.std.specs.List.{list_any}
use Rattle.heco_nums.proofs.Amounts.{passing}
use Rattle.heco_circuit.specs.Needs.{turns_by}
use Rattle.heco_circuit.proofs.key_needs.amounts.Given as goal

abbrev pub invariant-loop-amount : goal.invariant-loop-amount
invariant-loop-amount l = l.turns ++ passing (λ r. list_any (turns_by r) l.gates) l.amount (l.slots - l.amount) ≡ passing (λ r. list_any (turns_by r) l.gates) 1 (l.slots - 1)
