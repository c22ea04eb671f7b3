use Rattle.std.proofs.Common.{◌≡◌, ℕ, ◌+◌, ◌^◌, ◌<◌, length, map, get_or, sym, ◌∙◌, ap, refl, arith, Option, Some}
use Rattle.std.specs.List.{slice_get}
use Rattle.std.proofs.lemmas.Option.{slice_get_read}
use Rattle.heco_schedules.specs.declared.event.Stage.TheVariants.{Claimed}
use Rattle.heco_schedules.specs.Standings.{Wiring, Standing}
use Rattle.heco_sched.specs.Wirings.{wiring_of, operands_of}
use Rattle.heco_sched.specs.Tallies.{IsKept}
use Rattle.heco_schedules.proofs.Lists.{within, length-map}
use Rattle.heco_sched.proofs.OperandLaws.{operands_at}
use Rattle.heco_schedules.proofs.Ready.{ready_rises, named_ready}
use Rattle.heco_sched.proofs.Kept.{kept_finish, uses_enough}
use Rattle.heco_sched.proofs.board.Board.finish.Goals as goal

-- the gate that a busy worker holds is there
held_there : (c : Wiring) (s : Standing) (gates counts : _) (room worker gate : ℕ) (hold : Option ℕ) → IsKept c s gates counts room → worker < length s.workers
    → hold ≡ get_or s.workers worker hold → hold ≡ Some gate → (slice_get s.workers worker ≡ Some (Some gate)) × (gate < length s.stages) × (gate < length c.reads)
held_there c s gates counts room worker gate hold kept lt read is =
    let busy : slice_get s.workers worker ≡ Some (Some gate) = slice_get_read s.workers (length s.workers) worker hold refl lt read ∙ ap Some is in
    let there : gate < length s.stages = within s.stages gate (Claimed worker) (kept.consistent.holds gate worker busy) in
    (busy, there, rw kept.consistent.staged at there)

pub index_mut-requires : goal.index_mut-requires
index_mut-requires c =
    let legal = rw (← c.self.view_is) at c.requires in
    let lt : c.args.worker < length c.self.inside.workers.items = within c.self.inside.workers.items c.args.worker _ legal.1 in
    let held = held_there _ _ _ _ _ c.args.worker c.in-Some.gate c.index-hold.result.now c.self.invariant.kept lt c.index-hold.ensures c.in-Some.is in
    let there : c.in-Some.gate < length c.self.inside.stages.items = held.1 in omega arith

pub index_mut-requires-2 : goal.index_mut-requires-2
index_mut-requires-2 c =
    let legal = rw (← c.self.view_is) at c.requires in
    let lt : c.args.worker < length c.self.inside.workers.items = within c.self.inside.workers.items c.args.worker _ legal.1 in omega arith

pub index-requires : goal.index-requires
index-requires c =
    let legal = rw (← c.self.view_is) at c.requires in
    let lt : c.args.worker < length c.self.inside.workers.items = within c.self.inside.workers.items c.args.worker _ legal.1 in
    let held = held_there _ _ _ _ _ c.args.worker c.in-Some.gate c.index-hold.result.now c.self.invariant.kept lt c.index-hold.ensures c.in-Some.is in
    let there : c.in-Some.gate < length (map operands_of c.self.inside.gates.items) = held.2 in
    let inside : c.in-Some.gate < length c.self.inside.gates.items = rw length-map at there in omega arith

pub lower_uses-requires : goal.lower_uses-requires
lower_uses-requires c w =
    let legal = rw (← c.self.view_is) at c.requires in
    let lt : c.args.worker < length c.self.inside.workers.items = within c.self.inside.workers.items c.args.worker _ legal.1 in
    let held = held_there _ _ _ _ _ c.args.worker c.in-Some.gate c.index-hold.result.now c.self.invariant.kept lt c.index-hold.ensures c.in-Some.is in
    let inside : c.in-Some.gate < length c.self.inside.gates.items = rw length-map at held.2 in
    let same = operands_at c.self.inside.gates.items c.in-Some.gate (operands_of c.index.result.now) c.index.result.now inside (ap operands_of (sym c.index.ensures)) in
    let enough = uses_enough (wiring_of c.self.inside.inputs c.self.inside.gates.items c.self.inside.outputs.items) (record { stages = c.self.inside.stages.items; workers = c.self.inside.workers.items }) c.args.worker c.in-Some.gate _ _ _ c.self.invariant.kept held.0 w in
    rw same at enough

pub overflow_add-self-inside : goal.overflow_add-self-inside
overflow_add-self-inside c =
    let legal = rw (← c.self.view_is) at c.requires in
    let lt : c.args.worker < length c.self.inside.workers.items = within c.self.inside.workers.items c.args.worker _ legal.1 in
    let held = held_there _ _ _ _ _ c.args.worker c.in-Some.gate c.index-hold.result.now c.self.invariant.kept lt c.index-hold.ensures c.in-Some.is in
    let there : c.in-Some.gate < length (map operands_of c.self.inside.gates.items) = held.2 in
    let few : c.self.inside.inputs + length (map operands_of c.self.inside.gates.items) < 2 ^ 31 = c.self.invariant.kept.small.wires in omega arith

pub wake-requires-clause-there : goal.wake-requires-clause-there
wake-requires-clause-there c =
    let legal = rw (← c.self.view_is) at c.requires in
    let lt : c.args.worker < length c.self.inside.workers.items = within c.self.inside.workers.items c.args.worker _ legal.1 in
    let held = held_there _ _ _ _ _ c.args.worker c.in-Some.gate c.index-hold.result.now c.self.invariant.kept lt c.index-hold.ensures c.in-Some.is in
    let inside : c.in-Some.gate < length c.self.inside.gates.items = rw length-map at held.2 in
    rw c.deref.ensures.value (omega arith)

pub wake-requires-clause-rising : goal.wake-requires-clause-rising
wake-requires-clause-rising c = rw c.self.invariant.kept.ready (ready_rises _ _)

pub wake-requires-clause-fits : goal.wake-requires-clause-fits
wake-requires-clause-fits c g there =
    let r = named_ready _ _ g (rw c.self.invariant.kept.ready at there) in
    rw c.deref.ensures.value (rw length-map at r.0)

pub invariant_of-self : goal.invariant_of-self
invariant_of-self c =
    let legal = rw (← c.self.view_is) at c.requires in
    let lt : c.args.worker < length c.self.inside.workers.items = within c.self.inside.workers.items c.args.worker _ legal.1 in
    let held = held_there _ _ _ _ _ c.args.worker c.in-Some.gate c.index-hold.result.now c.self.invariant.kept lt c.index-hold.ensures c.in-Some.is in
    let inside : c.in-Some.gate < length c.self.inside.gates.items = rw length-map at held.2 in
    let same = operands_at c.self.inside.gates.items c.in-Some.gate (operands_of c.index.result.now) c.index.result.now inside (ap operands_of (sym c.index.ensures)) in
    record {
      readers = c.self.invariant.readers;
      kept = kept_finish (wiring_of c.self.inside.inputs c.self.inside.gates.items c.self.inside.outputs.items) (record { stages = c.self.inside.stages.items; workers = c.self.inside.workers.items }) c.args.worker c.in-Some.gate
          _ c.wake.new.ready.numbers _ c.lower_uses.new.uses.items _ _ c.self.invariant.kept held.0 c.wake.ensures.rising
          (λ g. (rw (c.deref.ensures.value, c.deref-2.ensures.value) at c.wake.ensures.woken g))
          (let room = rw c.deref.ensures.value at c.wake.ensures.room in rw length-map room)
          (λ w. rw same (c.lower_uses.ensures.each w)) c.lower_uses.ensures.count;
    }

pub returns : goal.returns
returns c =
    let legal = rw (← c.self.view_is) at c.requires in
    let lt : c.args.worker < length c.self.inside.workers.items = within c.self.inside.workers.items c.args.worker _ legal.1 in
    let held = held_there _ _ _ _ _ c.args.worker c.in-Some.gate c.index-hold.result.now c.self.invariant.kept lt c.index-hold.ensures c.in-Some.is in
    rw (← c.self.view_is, held.0) refl
