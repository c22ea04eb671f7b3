use Rattle.std.proofs.Common.{◌≤◌, length, arith, ap, ◌∙◌}
use lib.ListN.{drop}
use Rattle.heco_ring.specs.Ring.{wholes, turn}
use Rattle.heco_poly.proofs.Written.{settled_poly}
use Rattle.heco_poly.proofs.poly.Poly.turn_into.Goals as goal

pub invariant_of-out : goal.invariant_of-out
invariant_of-out c =
    let e = rw (c.as_slice.ensures.value ∙ c.a.view_is) at c.turn.ensures in
    let n = length c.args.a.now in
    let short : n ≤ 1024 = omega (arith, ap length c.a.view_is, c.a.invariant.1) in
    settled_poly n c.out.inside.places.len (turn n (wholes c.args.a.now) c.args.g) c.turn.new.out (drop (length c.turn.new.out) c.out.inside.places.items) e (omega (arith, ap length c.out.view_is)) short
