use Rattle.std.proofs.Common.{◌<◌, length, arith}
use Rattle.heco_sched.specs.Wirings.{wiring_of}
use Rattle.heco_schedules.proofs.Lists.{within}
use Rattle.heco_schedules.proofs.Consistent.{ready_open}
use Rattle.heco_sched.proofs.Kept.{kept_claim}
use Rattle.heco_sched.proofs.board.Board.claim.Goals as goal

pub index_mut-requires : goal.index_mut-requires
index_mut-requires c =
    let legal = rw (← c.self.view_is) at c.requires in
    let lt : c.args.gate < length c.self.inside.stages.items = within c.self.inside.stages.items c.args.gate _ (ready_open (wiring_of c.self.inside.inputs c.self.inside.gates.items c.self.inside.outputs.items) (record { stages = c.self.inside.stages.items; workers = c.self.inside.workers.items }) c.args.gate legal.1) in omega arith

pub index_mut-requires-2 : goal.index_mut-requires-2
index_mut-requires-2 c =
    let legal = rw (← c.self.view_is) at c.requires in
    let lt : c.args.worker < length c.self.inside.workers.items = within c.self.inside.workers.items c.args.worker _ legal.0 in omega arith

pub unmark-requires : goal.unmark-requires
unmark-requires c =
    let legal = rw (← c.self.view_is) at c.requires in
    let lt : c.args.gate < length c.self.inside.stages.items = within c.self.inside.stages.items c.args.gate _ (ready_open (wiring_of c.self.inside.inputs c.self.inside.gates.items c.self.inside.outputs.items) (record { stages = c.self.inside.stages.items; workers = c.self.inside.workers.items }) c.args.gate legal.1) in
    omega (arith, c.self.invariant.kept.room, c.self.invariant.kept.consistent.staged)

pub invariant_of-self : goal.invariant_of-self
invariant_of-self c =
    let legal = rw (← c.self.view_is) at c.requires in
    record { readers = c.self.invariant.readers; kept = kept_claim _ (record { stages = c.self.inside.stages.items; workers = c.self.inside.workers.items }) c.args.worker c.args.gate _ _ _ _ _ c.self.invariant.kept legal.0 legal.1 c.unmark.ensures.rising c.unmark.ensures.named (omega (arith, c.unmark.ensures.places)) }
