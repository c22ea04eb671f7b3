use Rattle.std.proofs.Common.{◌≡◌, length, arith, true}
use Rattle.heco_ir.specs.Values.{all_below, numbers}
use Rattle.heco_ir.proofs.Means.{Placed-next, Placed-all, placed_means, placed_below, root_below}
use Rattle.heco_ir.proofs.pass.run_pass.Goals as goal

pub index-requires : goal.index-requires
index-requires g c =
    let inside : all_below (length c.args.ir.now.0) (numbers c.as_slice-root-items.result.now) ≡ true = rw (c.as_slice-root-items.ensures, c.roots.ensures.value) c.roots.ensures.inside in
    omega (arith, root_below _ _ _ (record { 0 = 0 }) inside c.loop-root-test.true, c.in_ok-out.ensures.count, c.in_ok-out.ids.ok.0)

pub loop-root-preserved : goal.loop-root-preserved
loop-root-preserved g c =
    let inside : all_below (length c.args.ir.now.0) (numbers c.as_slice-root-items.result.now) ≡ true = rw (c.as_slice-root-items.ensures, c.roots.ensures.value) c.roots.ensures.inside in
    Placed-next c.loop-root.invariant (record { 0 = 0 }) c.loop-root-test.true
    (omega (arith, root_below _ _ _ (record { 0 = 0 }) inside c.loop-root-test.true, c.in_ok-out.ensures.count))
    c.index.ensures c.in_ok-push.ensures.ok

pub finish-requires : goal.finish-requires
finish-requires g c =
    let inside : all_below (length c.args.ir.now.0) (numbers c.as_slice-root-items.result.now) ≡ true = rw (c.as_slice-root-items.ensures, c.roots.ensures.value) c.roots.ensures.inside in
    let e : c.loop-root.root-index ≡ length c.as_slice-root-items.result.now = omega arith in
    placed_below _ _ c.in_ok-out.ensures (Placed-all c.loop-root.invariant e) inside

pub returns-clause-means : goal.returns-clause-means
returns-clause-means g c = λ w.
    let inside : all_below (length c.args.ir.now.0) (numbers c.as_slice-root-items.result.now) ≡ true = rw (c.as_slice-root-items.ensures, c.roots.ensures.value) c.roots.ensures.inside in
    let e : c.loop-root.root-index ≡ length c.as_slice-root-items.result.now = omega arith in
    rw (c.finish.ensures, ← c.roots.ensures.value, ← c.as_slice-root-items.ensures) (placed_means _ _ w c.in_ok-out.ensures (Placed-all c.loop-root.invariant e) inside)

pub returns-clause-few : goal.returns-clause-few
returns-clause-few g c = rw c.finish.ensures c.in_ok-out.ensures.few
