use Rattle.std.proofs.Common.{◌≡◌, ℕ, List, length, refl, arith, true, ◌∙◌, ap}
use Rattle.std.proofs.Math.Seq.{take-length}
use Rattle.heco_ir.specs.Ranges.{gates_of_nodes}
use Rattle.heco_ir.specs.declared.dialect.NodeId.{NodeId}
use Rattle.heco_ir.specs.Values.{all_below, numbers, renamed}
use Rattle.heco_ir.proofs.Means.{Placed, Placed-next, Placed-all, root_below}
use Rattle.heco_cse.proofs.Copying.{copies_all, root_placed}
use Rattle.heco_cse.proofs.Kept.{kept_terms, kept_used, kept_once}
use Rattle.heco_cse.proofs.dead.drop_dead.Goals as goal

pub index-requires : goal.index-requires
index-requires c =
    let inside : all_below (length c.args.ir.now.0) (numbers c.as_slice-root-items.result.now) ≡ true = rw (c.as_slice-root-items.ensures, c.roots.ensures.value) c.roots.ensures.inside in
    omega (arith, root_below _ _ _ (record { 0 = 0 }) inside c.loop-root-test.true, c.in_ok-out.ensures.copies.count, c.in_ok-out.ids.ok.0)

pub loop-root-preserved : goal.loop-root-preserved
loop-root-preserved c =
    let inside : all_below (length c.args.ir.now.0) (numbers c.as_slice-root-items.result.now) ≡ true = rw (c.as_slice-root-items.ensures, c.roots.ensures.value) c.roots.ensures.inside in
    Placed-next c.loop-root.invariant (record { 0 = 0 }) c.loop-root-test.true
    (omega (arith, root_below _ _ _ (record { 0 = 0 }) inside c.loop-root-test.true, c.in_ok-out.ensures.copies.count))
    c.index.ensures c.in_ok-push.ensures.ok

-- the new roots are the old ones, renamed
all_placed : {ids roots new : List NodeId} {i : ℕ} → Placed ids roots new i → i ≡ length roots → (rs : List ℕ) → numbers roots ≡ rs → numbers new ≡ renamed ids rs
all_placed {ids} h e rs f = Placed-all h e ∙ ap (renamed ids) f

pub finish-requires : goal.finish-requires
finish-requires c =
    let e : c.loop-root.root-index ≡ length c.as_slice-root-items.result.now = omega (arith, c.loop-root-test.false, c.loop-root.auto.root-index-end) in
    let copies = rw c.deref.ensures.value at c.in_ok-out.ensures.copies in
    rw (all_placed c.loop-root.invariant e c.args.ir.now.1 (ap numbers c.as_slice-root-items.ensures ∙ c.roots.ensures.value))
    (root_placed copies c.in_ok-marks.ensures refl)

pub returns-clause-kept : goal.returns-clause-kept
returns-clause-kept c =
    let e : c.loop-root.root-index ≡ length c.as_slice-root-items.result.now = omega (arith, c.loop-root-test.false, c.loop-root.auto.root-index-end) in
    let copies = rw c.deref.ensures.value at c.in_ok-out.ensures.copies in
    rw c.finish.ensures
    (copies_all (numbers c.loop-root.roots) copies c.in_ok-marks.ensures refl
    (all_placed c.loop-root.invariant e c.args.ir.now.1 (ap numbers c.as_slice-root-items.ensures ∙ c.roots.ensures.value)))

pub returns-clause-terms : goal.returns-clause-terms
returns-clause-terms c =
    let e : c.loop-root.root-index ≡ length c.as_slice-root-items.result.now = omega (arith, c.loop-root-test.false, c.loop-root.auto.root-index-end) in
    let copies = rw c.deref.ensures.value at c.in_ok-out.ensures.copies in
    let placed : numbers c.loop-root.roots ≡ renamed c.in_ok-out.ids.items c.args.ir.now.1 = all_placed c.loop-root.invariant e c.args.ir.now.1 (ap numbers c.as_slice-root-items.ensures ∙ c.roots.ensures.value) in
    rw c.finish.ensures
    (kept_terms (copies_all (numbers c.loop-root.roots) copies c.in_ok-marks.ensures refl placed) c.in_ok-out.ensures.earlier c.roots.ensures.inside copies.earlier
    (rw placed (root_placed copies c.in_ok-marks.ensures refl)))

pub returns-clause-used : goal.returns-clause-used
returns-clause-used c =
    let e : c.loop-root.root-index ≡ length c.as_slice-root-items.result.now = omega (arith, c.loop-root-test.false, c.loop-root.auto.root-index-end) in
    let copies = rw c.deref.ensures.value at c.in_ok-out.ensures.copies in
    let placed : numbers c.loop-root.roots ≡ renamed c.in_ok-out.ids.items c.args.ir.now.1 = all_placed c.loop-root.invariant e c.args.ir.now.1 (ap numbers c.as_slice-root-items.ensures ∙ c.roots.ensures.value) in
    rw c.finish.ensures
    (kept_used (copies_all (numbers c.loop-root.roots) copies c.in_ok-marks.ensures refl placed) c.in_ok-out.ensures.earlier c.roots.ensures.inside copies.earlier
    (rw placed (root_placed copies c.in_ok-marks.ensures refl)))

pub returns-clause-once : goal.returns-clause-once
returns-clause-once c =
    let e : c.loop-root.root-index ≡ length c.as_slice-root-items.result.now = omega (arith, c.loop-root-test.false, c.loop-root.auto.root-index-end) in
    let copies = rw c.deref.ensures.value at c.in_ok-out.ensures.copies in
    let placed : numbers c.loop-root.roots ≡ renamed c.in_ok-out.ids.items c.args.ir.now.1 = all_placed c.loop-root.invariant e c.args.ir.now.1 (ap numbers c.as_slice-root-items.ensures ∙ c.roots.ensures.value) in
    rw c.finish.ensures
    (kept_once (copies_all (numbers c.loop-root.roots) copies c.in_ok-marks.ensures refl placed) c.in_ok-out.ensures.earlier c.roots.ensures.inside copies.earlier
    (rw placed (root_placed copies c.in_ok-marks.ensures refl)))

pub returns-clause-gates : goal.returns-clause-gates
returns-clause-gates c = rw c.finish.ensures (omega (arith, c.in_ok-out.ensures.copies.gates, ap gates_of_nodes (take-length c.args.ir.now.0)))

pub returns-clause-fits : goal.returns-clause-fits
returns-clause-fits c = λ slots modulus es h. rw c.finish.ensures (c.in_ok-out.ensures.copies.fit slots modulus es (rw take-length h))
