use Rattle.std.proofs.Common.{◌^◌, ℕ, List, length, get_or, arith, refl, sym, ap, ◌∙◌}
use lib.IntN.{pos, ◌+ℤ◌}
use lib.IntN.{ℤ}
use Rattle.heco_ring.proofs.Linear.{at-plus}
use Rattle.heco_ring.proofs.Reduced.{filled}
use Rattle.heco_ring.proofs.Wrapping.{at-wholes}
use Rattle.heco_ring.specs.Remainders.{rem}
use Rattle.heco_ring.specs.Ring.{wholes, plus}
use Rattle.heco_poly.proofs.Changes.{changed_none, changed_more}
use Rattle.heco_poly.proofs.add.add.Goals as goal

pub loop-i-init : goal.loop-i-init
loop-i-init c = changed_none (length c.args.a.now) c.args.a.now (λ k x. rem (2 ^ 58) (pos x +ℤ pos (get_or c.args.b.now k 0)))

pub loop-i-preserved : goal.loop-i-preserved
loop-i-preserved c = changed_more (length c.args.a.now) c.loop-i.i c.add.result c.args.a.now c.loop-i.a (λ k x. rem (2 ^ 58) (pos x +ℤ pos (get_or c.args.b.now k 0))) c.loop-i-test.true c.loop-i.auto.a c.loop-i.invariant c.add.ensures

pub returns : goal.returns
returns c =
    let n : ℕ = length c.args.a.now in
    let A : List ℤ = wholes c.args.a.now in
    let B : List ℤ = wholes c.args.b.now in
    filled (2 ^ 58) n (plus n A B) c.loop-i.a c.loop-i.auto.a (λ k h. c.loop-i.invariant.done k (omega arith) ∙ ap (rem (2 ^ 58)) (sym (at-plus n A B k h ∙ rw (at-wholes c.args.a.now k, at-wholes c.args.b.now k) refl)))
