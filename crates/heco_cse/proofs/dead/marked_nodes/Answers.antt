use Rattle.std.proofs.Common.{◌∷◌, [], ◌++◌, arith, false, ◌∙◌, ap}
use Rattle.std.proofs.lemmas.Option.{slice_get-get_or}
use Rattle.heco_ir.specs.declared.vector.VNode.TheVariants.{Input}
use Rattle.heco_cse.specs.Dead.{over_ids}
use Rattle.heco_cse.proofs.Marking.{marked_at, unmarked_at}
use Rattle.heco_cse.proofs.Copying.{operands_at, copy_below, copies_next, copies_skip}
use Rattle.heco_cse.proofs.dead.marked_nodes.Goals.{then-marks-i+in_ok-id, else-marks-i}
use Rattle.heco_cse.proofs.dead.marked_nodes.Goals as goal

pub renamed-requires : goal.renamed-requires
renamed-requires c = rw (c.deref.ensures.value, c.loop-i.invariant.count) (operands_at _ _ _ c.len-i-end.ensures.earlier c.node.ensures)

pub push-requires-clause-earlier : goal.push-requires-clause-earlier
push-requires-clause-earlier c =
    rw (c.renamed.ensures, c.deref.ensures.value)
    (copy_below c.node.result c.loop-i.invariant c.requires c.len-i-end.ensures.earlier c.node.ensures
    (marked_at c.args.marks.now c.loop-i.i false (omega (arith, c.requires.count, c.len-i-end.ensures.value, c.loop-i-test.true)) c.if-marks-i.true))

pub push-requires-clause-room : goal.push-requires-clause-room
push-requires-clause-room c = omega (arith, c.loop-i.invariant.few, c.len-i-end.ensures.value, c.len-i-end.ensures.room)

pub loop-i-preserved : goal.loop-i-preserved
loop-i-preserved c =
    elim c.if-marks-i.branch [
      | then-marks-i+in_ok-id w ↦
          copies_next w.node.result c.loop-i.invariant c.requires c.len-i-end.ensures.earlier w.node.ensures
          (marked_at c.args.marks.now c.loop-i.i false (omega (arith, c.requires.count, c.len-i-end.ensures.value, c.loop-i-test.true)) w.if-marks-i.true)
          {d = c.if-marks-i.id}
          (ap (λ k. k.0) w.id-is ∙ w.in_ok-id.ensures.id)
          (w.out-is ∙ w.in_ok-id.ensures.grown ∙ ap (λ x. c.loop-i.out ++ x ∷ []) (w.renamed.ensures ∙ ap (λ s. over_ids s w.node.result) w.deref.ensures.value))
          c.in_ok-push.ensures.items
      | else-marks-i w ↦
          rw w.out-is (copies_skip c.if-marks-i.id _ c.loop-i.invariant (slice_get-get_or c.args.ir.now.0 c.loop-i.i (Input 0) (omega (arith, c.len-i-end.ensures.value, c.loop-i-test.true))) (unmarked_at c.args.marks.now c.loop-i.i false w.if-marks-i.false) c.in_ok-push.ensures.items)
    ]
