use Rattle.std.proofs.Common.{◌^◌, length, ap, sym, ◌∙◌, arith}
use Rattle.heco_ring.specs.Remainders.{rem}
use Rattle.heco_ring.specs.Ring.{wholes, times}
use Rattle.heco_ring.proofs.Linear.{at-times}
use Rattle.heco_ring.proofs.Reduced.{filled}
use Rattle.heco_poly.proofs.plain.product.Goals as goal

pub returns : goal.returns
returns c =
    let n = length c.args.a.now in
    let A = wholes c.args.a.now in
    let B = wholes c.args.b.now in
    filled (2 ^ 58) n (times n A B) c.loop-k.out (omega arith) (λ k h. c.loop-k.invariant k (omega arith) ∙ ap (rem (2 ^ 58)) (sym (at-times n A B k h)))
