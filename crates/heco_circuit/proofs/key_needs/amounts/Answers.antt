use Rattle.std.proofs.Common.{◌<◌, ◌-◌, ℕ, Bool, false, get_or, arith}
use Rattle.std.specs.List.{list_any}
use Rattle.heco_nums.proofs.Amounts.{passing, passing_more}
use Rattle.heco_circuit.specs.Needs.{turns_by}
use Rattle.heco_circuit.proofs.key_needs.amounts.Goals as goal

pub loop-amount-preserved : goal.loop-amount-preserved
loop-amount-preserved c =
    let k = c.loop-amount.amount in
    let below : k < 512 = omega arith in
    let turned : ℕ → Bool = λ r. list_any (turns_by r) c.args.gates.now in
    rw c.in_ok-push_where.ensures (passing_more turned c.loop-amount.turns k c.args.slots (get_or c.marks-seen.result k false) (passing turned 1 (c.args.slots - 1))
    c.loop-amount-test.true (c.marks-seen.ensures k below) c.loop-amount.invariant)
