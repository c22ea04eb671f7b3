use Rattle.std.proofs.Common.{◌≡◌, ◌+◌, ◌-◌, ◌<◌, length, refl, arith, true, false, replicate, get_or, ◌∙◌, ap, sym, subst}
use Rattle.std.proofs.lemmas.List.{length-replicate}
use Rattle.heco_ir.specs.Values.{all_below, numbers}
use Rattle.heco_ir.specs.Vectors.{vector_operands}
use Rattle.heco_ir.proofs.Means.{root_below, below_more_ids, length-numbers}
use Rattle.heco_ir.proofs.Renaming.{get_or-map-lt}
use Rattle.heco_cse.specs.Dead.{Marks}
use Rattle.heco_cse.proofs.Marking.{marked_at, unmarked_at, marking_next, marking_end}
use Rattle.heco_cse.proofs.UsedMarks.{marks_start, marks_next, marks_skip}
use Rattle.heco_cse.proofs.Copying.{operands_at}
use Rattle.heco_cse.proofs.dead.marks_of.Goals as goal

pub index_mut-requires : goal.index_mut-requires
index_mut-requires c =
    let inside : all_below (length c.args.ir.now.0) (numbers c.as_slice-root-items.result.now) ≡ true = rw (c.as_slice-root-items.ensures, c.roots.ensures.value) c.roots.ensures.inside in
    let start : c.in_ok-marks.marks.items ≡ replicate c.len.result false = c.in_ok-marks.ensures.items_if_clones_equal (λ y h. h) in
    let long : length c.in_ok-marks.marks.items ≡ length c.args.ir.now.0 = ap length start ∙ length-replicate c.len.result false ∙ c.len.ensures.value in
    omega (arith, root_below _ _ _ (record { 0 = 0 }) inside c.loop-root-test.true, c.loop-root.invariant.count, long, c.loop-root.marks.ok.0)

pub loop-root-preserved : goal.loop-root-preserved
loop-root-preserved c =
    let inside : all_below (length c.args.ir.now.0) (numbers c.as_slice-root-items.result.now) ≡ true = rw (c.as_slice-root-items.ensures, c.roots.ensures.value) c.roots.ensures.inside in
    let start : c.in_ok-marks.marks.items ≡ replicate c.len.result false = c.in_ok-marks.ensures.items_if_clones_equal (λ y h. h) in
    let long : length c.in_ok-marks.marks.items ≡ length c.args.ir.now.0 = ap length start ∙ length-replicate c.len.result false ∙ c.len.ensures.value in
    let here : (get_or c.as_slice-root-items.result.now c.loop-root.root-index (record { 0 = 0 })).0 < length c.args.ir.now.0 = root_below _ _ _ (record { 0 = 0 }) inside c.loop-root-test.true in
    marking_next _ c.loop-root.invariant (omega (arith, length-numbers c.as_slice-root-items.result.now, c.loop-root-test.true))
    (sym (get_or-map-lt (λ x. x.0) c.as_slice-root-items.result.now c.loop-root.root-index (record { 0 = 0 }) 0 c.loop-root-test.true))
    (omega (arith, here, c.loop-root.invariant.count, long)) refl

pub loop-i-init : goal.loop-i-init
loop-i-init c =
    let start : c.in_ok-marks.marks.items ≡ replicate (length c.args.ir.now.0) false = c.in_ok-marks.ensures.items_if_clones_equal (λ y h. h) ∙ ap (λ k. replicate k false) c.len.ensures.value in
    let long : length c.in_ok-marks.marks.items ≡ length c.args.ir.now.0 = ap length start ∙ length-replicate (length c.args.ir.now.0) false in
    let roots : numbers c.as_slice-root-items.result.now ≡ c.args.ir.now.1 = ap numbers c.as_slice-root-items.ensures ∙ c.roots.ensures.value in
    let all : Marks c.args.ir.now.0 c.args.ir.now.1 (length c.args.ir.now.0) c.loop-root.marks.items =
    marks_start c.args.ir.now.0 c.args.ir.now.1 c.in_ok-marks.marks.items c.loop-root.marks.items (numbers c.as_slice-root-items.result.now)
    (omega (arith, c.loop-root.invariant.count, long)) start roots
    (marking_end c.loop-root.invariant (omega (arith, length-numbers c.as_slice-root-items.result.now, c.loop-root-test.false, c.loop-root.auto.root-index-end))) in
    (subst (λ k. Marks c.args.ir.now.0 c.args.ir.now.1 k c.loop-root.marks.items) (sym c.len-i.ensures.value) all, omega arith)

pub mark_operands-requires : goal.mark_operands-requires
mark_operands-requires c =
    below_more_ids (c.loop-i.i - 1) (length c.loop-i.marks.items) (vector_operands c.node.result) (omega (arith, c.loop-i.invariant.0.count, c.loop-i.invariant.1))
    (operands_at c.args.ir.now.0 (c.loop-i.i - 1) c.node.result c.len-i.ensures.earlier c.node.ensures)

pub loop-i-preserved-then-index : goal.loop-i-preserved-then-index
loop-i-preserved-then-index c =
    let z : c.loop-i.i ≡ c.loop-i.i - 1 + 1 = omega arith in
    let before : Marks c.args.ir.now.0 c.args.ir.now.1 (c.loop-i.i - 1 + 1) c.loop-i.marks.items = subst (λ k. Marks c.args.ir.now.0 c.args.ir.now.1 k c.loop-i.marks.items) z c.loop-i.invariant.0 in (
      marks_next c.args.ir.now.0 c.args.ir.now.1 c.node.result before c.len-i.ensures.earlier c.node.ensures
          (marked_at c.loop-i.marks.items (c.loop-i.i - 1) c.index.result.now (omega (arith, before.count, c.loop-i.invariant.1, c.loop-i-test.true)) (sym c.index.ensures ∙ c.if-index.true))
          c.mark_operands.ensures.count c.mark_operands.ensures.marked,
      omega (arith, c.loop-i.invariant.1),
    )

pub loop-i-preserved : goal.loop-i-preserved
loop-i-preserved c =
    let z : c.loop-i.i ≡ c.loop-i.i - 1 + 1 = omega arith in
    let before : Marks c.args.ir.now.0 c.args.ir.now.1 (c.loop-i.i - 1 + 1) c.loop-i.marks.items = subst (λ k. Marks c.args.ir.now.0 c.args.ir.now.1 k c.loop-i.marks.items) z c.loop-i.invariant.0 in (
      marks_skip c.args.ir.now.0 c.args.ir.now.1 before (unmarked_at c.loop-i.marks.items (c.loop-i.i - 1) c.index.result.now (sym c.index.ensures ∙ c.if-index.false)),
      omega (arith, c.loop-i.invariant.1),
    )
