use Rattle.std.proofs.Common.{get_or, ◌∙◌, arith}
use Rattle.heco_sched.proofs.OpeningLaws.{named_at, times_below, times_next}
use Rattle.heco_sched.proofs.opening.count_outputs.Goals as goal

pub raise_at-requires-clause-there : goal.raise_at-requires-clause-there
raise_at-requires-clause-there c =
    let wire = get_or c.args.outputs.now c.loop-wire.wire-index 0 in
    rw c.loop-wire.invariant.count (c.requires.reach wire (named_at c.args.outputs.now c.loop-wire.wire-index c.loop-wire-test.true))

pub raise_at-requires-clause-few : goal.raise_at-requires-clause-few
raise_at-requires-clause-few c =
    let wire = get_or c.args.outputs.now c.loop-wire.wire-index 0 in
    let so_far = c.loop-wire.invariant.each wire in
    let most = times_below c.args.outputs.now c.loop-wire.wire-index wire in
    let few = c.requires.few wire in
    omega arith

pub loop-wire-preserved : goal.loop-wire-preserved
loop-wire-preserved c = record {
  count = c.raise_at.ensures.count ∙ c.loop-wire.invariant.count;
  each = λ wire. (
      let raised = c.raise_at.ensures.each wire in
      let so_far = c.loop-wire.invariant.each wire in
      let next = times_next c.args.outputs.now c.loop-wire.wire-index wire c.loop-wire-test.true in
      omega arith);
}
