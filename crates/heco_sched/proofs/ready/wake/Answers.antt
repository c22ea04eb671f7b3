use Rattle.std.proofs.Common.{◌≡◌, ◌+◌, ◌-◌, ◌<◌, length, map, get_or, sym, ◌∙◌, ap, refl, arith}
use Rattle.std.proofs.lemmas.Option.{slice_get_read, get_or_from_slice_get}
use Rattle.heco_sched.specs.Wirings.{operands_of}
use Rattle.heco_schedules.specs.Standings.{gate_ready}
use Rattle.heco_sched.specs.Readers.{last_reader}
use Rattle.heco_schedules.proofs.Lists.{length-map}
use Rattle.heco_sched.proofs.Waking.{last_reader-le, waking_start, waking_next, nothing_put, one_put}
use Rattle.heco_sched.proofs.ready.wake.Goals as goal
use Rattle.heco_sched.proofs.ready.wake.Goals.{then-gate_is_ready, else-gate_is_ready}

pub loop-above-init : goal.loop-above-init
loop-above-init c =
    let count = c.requires.readers.count in
    let inside : c.args.wire < length c.args.readers.now.last.items = rw count c.requires.there in
    let here : get_or c.args.readers.now.last.items c.args.wire 0 ≡ c.index-above.result.now = get_or_from_slice_get c.args.readers.now.last.items c.args.wire c.index-above.result.now 0 (slice_get_read c.args.readers.now.last.items _ c.args.wire c.index-above.result.now refl inside c.index-above.ensures) in
    waking_start (gate_ready c.args.inputs (map operands_of c.args.gates.now) c.args.stages.now) (map operands_of c.args.gates.now) c.args.wire c.index-above.result.now c.args.ready.now.numbers c.args.ready.now.places
    c.requires.rising (λ g there. rw length-map (c.requires.fits g there)) (rw length-map c.requires.room)
    (sym here ∙ c.requires.readers.final c.args.wire c.requires.there ∙ ap (last_reader (map operands_of c.args.gates.now) c.args.wire) (sym (length-map operands_of c.args.gates.now)))

pub mark-requires : goal.mark-requires
mark-requires c = let space = c.loop-above.invariant.space in let low = c.loop-above.invariant.below in omega arith

pub loop-above-smaller : goal.loop-above-smaller
loop-above-smaller c =
    let least = last_reader-le (map operands_of c.args.gates.now) c.args.wire (c.loop-above.above - 1) in
    omega (arith, c.before-above.ensures)

pub loop-above-preserved : goal.loop-above-preserved
loop-above-preserved c =
    let at : c.loop-above.above ≡ (c.loop-above.above - 1) + 1 = omega arith in
    elim c.if-gate_is_ready.branch [
      | then-gate_is_ready w ↦ (
          let on = sym c.gate_is_ready.ensures ∙ w.if-gate_is_ready.true in
          rw w.ready-is (waking_next _ _ _ _ (c.loop-above.above - 1) _ _ _ _ _ _ c.loop-above.invariant at c.before-above.ensures w.mark.ensures.rising (one_put _ _ _ _ on w.mark.ensures.named) (omega (arith, w.mark.ensures.places))))
      | else-gate_is_ready w ↦ (
          let off = sym c.gate_is_ready.ensures ∙ w.if-gate_is_ready.false in
          rw w.ready-is (waking_next _ _ _ _ (c.loop-above.above - 1) _ _ _ _ _ _ c.loop-above.invariant at c.before-above.ensures c.loop-above.invariant.rising (nothing_put _ _ _ off) (omega arith)))
    ]
