use Rattle.std.proofs.Common.{ℕ, ◌+◌, ◌-◌, ◌^◌, ◌<◌, ◌≤◌, length, map, arith}
use Rattle.heco_sched.specs.Wirings.{operands_of}
use Rattle.heco_schedules.specs.Standings.{Wiring, Standing}
use Rattle.heco_sched.specs.Tallies.{IsKept}
use Rattle.heco_sched.proofs.Kept.{few_ready, few_claims}
use Rattle.heco_schedules.proofs.Order.{idle_and_busy}
use Rattle.heco_sched.proofs.board.Board.counts.Goals as goal

ready_few : (c : Wiring) (s : Standing) (gates counts : _) (room : ℕ) → IsKept c s gates counts room → length gates ≤ length c.reads
ready_few c s gates counts room kept = rw kept.ready (few_ready c s)

pub overflow_sub-idle : goal.overflow_sub-idle
overflow_sub-idle c =
    let busy = rw c.deref.ensures.value at c.count_busy-busy.ensures in
    let all = idle_and_busy c.self.inside.workers.items in
    omega (arith, all, busy)

pub returns-clause-idle : goal.returns-clause-idle
returns-clause-idle c =
    let busy = rw c.deref.ensures.value at c.count_busy-busy.ensures in
    let all = idle_and_busy c.self.inside.workers.items in
    rw (← c.self.view_is) (omega (arith, all, busy))

pub returns-clause-few : goal.returns-clause-few
returns-clause-few c =
    let busy = rw c.deref.ensures.value at c.count_busy-busy.ensures in
    let all = idle_and_busy c.self.inside.workers.items in
    let some = ready_few _ _ _ _ _ c.self.invariant.kept in
    let few : length (map operands_of c.self.inside.gates.items) < 2 ^ 28 = c.self.invariant.kept.small.gates in
    let four : length c.self.inside.workers.items ≤ 4 = c.self.invariant.kept.small.few in
    let ready : c.count.result ≤ length (map operands_of c.self.inside.gates.items) = omega (arith, some) in
    let workers : c.len.result - c.count_busy-busy.result + c.count_busy-busy.result ≤ 4 = omega (arith, all, busy) in
    few_claims (c.len.result - c.count_busy-busy.result) c.count.result c.count_busy-busy.result _ workers ready few
