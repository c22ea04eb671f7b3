use Rattle.std.proofs.Common.{◌≤◌, length, arith, ap, ◌∙◌}
use lib.ListN.{drop}
use Rattle.heco_ring.specs.Ring.{wholes, times}
use Rattle.heco_poly.proofs.Written.{settled_poly}
use Rattle.heco_poly.proofs.poly.Poly.mul_plain_into.Goals as goal

pub invariant_of-out : goal.invariant_of-out
invariant_of-out c =
    let ea = c.as_slice.ensures.value ∙ c.a.view_is in
    let eb = c.as_slice-2.ensures.value ∙ c.b.view_is in
    let e = rw (ea, eb) at c.product.ensures in
    let n = length c.args.a.now in
    let short : n ≤ 1024 = omega (arith, ap length c.a.view_is, c.a.invariant.1) in
    settled_poly n c.out.inside.places.len (times n (wholes c.args.a.now) (wholes c.args.b.now)) c.product.new.out (drop (length c.product.new.out) c.out.inside.places.items) e (omega (arith, ap length c.out.view_is)) short
