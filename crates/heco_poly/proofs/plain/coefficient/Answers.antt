use Rattle.std.proofs.Common.{◌^◌, length, ap, ◌∙◌, arith, ◌≡◌}
use Rattle.heco_ring.specs.Remainders.{rem}
use Rattle.heco_ring.specs.Ring.{wholes}
use Rattle.heco_ring.proofs.Rows.{rows_all}
use Rattle.heco_poly.proofs.Products.{coefficient_none, coefficient_up, coefficient_down}
use Rattle.heco_poly.proofs.plain.coefficient.Goals as goal
use Rattle.heco_poly.proofs.plain.coefficient.Goals.{then-i-k, else-i-k}

pub loop-i-init : goal.loop-i-init
loop-i-init c = coefficient_none (length c.args.a.now) c.args.k (wholes c.args.a.now) (wholes c.args.b.now)

pub loop-i-preserved : goal.loop-i-preserved
loop-i-preserved c = elim c.if-i-k.branch [
  | then-i-k w ↦ w.sum-is ∙ coefficient_up (length c.args.a.now) c.loop-i.i c.args.k c.loop-i.sum w.mul.result w.add-sum.result c.args.a.now c.args.b.now w.if-i-k.true c.requires.inside c.loop-i.invariant w.mul.ensures w.add-sum.ensures
  | else-i-k w ↦ w.sum-is ∙ coefficient_down (length c.args.a.now) c.loop-i.i c.args.k c.loop-i.sum w.mul-else-i-k.result w.sub-sum.result c.args.a.now c.args.b.now w.if-i-k.false c.loop-i-test.true c.loop-i.invariant w.mul-else-i-k.ensures w.sub-sum.ensures
]

pub returns : goal.returns
returns c = let e : c.loop-i.i ≡ length c.args.a.now = omega arith in (rw e at c.loop-i.invariant) ∙ ap (rem (2 ^ 58)) (rows_all (length c.args.a.now) c.args.k (wholes c.args.a.now) (wholes c.args.b.now))
