use Rattle.std.proofs.Common.{◌≤◌, length, arith, ap, ◌∙◌}
use lib.ListN.{drop}
use Rattle.heco_ring.specs.Ring.{wholes, times}
use Rattle.heco_poly.proofs.Written.{settled_poly}
use Rattle.heco_poly.proofs.poly.Poly.mul_sparse_into.Goals as goal

pub invariant_of-out : goal.invariant_of-out
invariant_of-out c =
    let e = rw (c.as_slice.ensures.value ∙ c.b.view_is) at c.sparse.ensures in
    let n = length c.args.b.now in
    let short : n ≤ 1024 = omega (arith, ap length c.b.view_is, c.b.invariant.1) in
    settled_poly n c.out.inside.places.len (times n c.args.small.now (wholes c.args.b.now)) c.sparse.new.out (drop (length c.sparse.new.out) c.out.inside.places.items) e (omega (arith, ap length c.out.view_is)) short
