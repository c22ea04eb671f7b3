use Rattle.heco_schedules.proofs.Stays.{one_worker, claimed_operands, done_stays}
use Rattle.heco_schedules.proofs.laws.gates_move_on.Goals as goal

pub returns-clause-claimed : goal.returns-clause-claimed
returns-clause-claimed c = one_worker

pub returns-clause-operands : goal.returns-clause-operands
returns-clause-operands c = claimed_operands

pub returns-clause-done : goal.returns-clause-done
returns-clause-done c = done_stays
