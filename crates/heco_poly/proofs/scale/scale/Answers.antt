use Rattle.std.proofs.Common.{◌^◌, ℕ, List, length, get_or, arith, sym, ap, ◌∙◌}
use lib.IntN.{pos, ◌*ℤ◌}
use lib.IntN.{ℤ}
use Rattle.heco_ring.proofs.Integers.{z_mul_comm}
use Rattle.heco_ring.proofs.Linear.{at-scale}
use Rattle.heco_ring.proofs.Reduced.{filled}
use Rattle.heco_ring.proofs.Wrapping.{at-wholes}
use Rattle.heco_ring.specs.Remainders.{rem}
use Rattle.heco_ring.specs.Ring.{wholes, scale}
use Rattle.heco_poly.proofs.Changes.{changed_none, changed_more}
use Rattle.heco_poly.proofs.scale.scale.Goals as goal

pub loop-i-init : goal.loop-i-init
loop-i-init c = changed_none (length c.args.a.now) c.args.a.now (λ k x. rem (2 ^ 58) (pos x *ℤ pos c.args.c))

pub loop-i-preserved : goal.loop-i-preserved
loop-i-preserved c = changed_more (length c.args.a.now) c.loop-i.i c.mul.result c.args.a.now c.loop-i.a (λ k x. rem (2 ^ 58) (pos x *ℤ pos c.args.c)) c.loop-i-test.true c.loop-i.auto.a c.loop-i.invariant c.mul.ensures

pub returns : goal.returns
returns c =
    let n : ℕ = length c.args.a.now in
    let A : List ℤ = wholes c.args.a.now in
    filled (2 ^ 58) n (scale n (pos c.args.c) A) c.loop-i.a c.loop-i.auto.a (λ k h. c.loop-i.invariant.done k (omega arith) ∙ ap (rem (2 ^ 58)) (sym (at-scale n (pos c.args.c) A k h ∙ rw (at-wholes c.args.a.now k) (z_mul_comm (pos c.args.c) (pos (get_or c.args.a.now k 0))))))
