use Rattle.std.proofs.Common.{◌≤◌, length, arith, ap, ◌∙◌}
use lib.ListN.{drop}
use Rattle.heco_poly.proofs.Written.{settled_poly}
use Rattle.heco_poly.proofs.poly.Poly.small_into.Goals as goal

pub invariant_of-out : goal.invariant_of-out
invariant_of-out c =
    let e = rw (c.as_mut_slice.ensures.value ∙ c.out.view_is) at c.small.ensures in
    let n = length c.args.out.now in
    let short : n ≤ 1024 = omega (arith, ap length c.out.view_is, c.out.invariant.1) in
    settled_poly n c.out.inside.places.len c.args.words.now c.small.new.out (drop (length c.small.new.out) c.out.inside.places.items) e (omega (arith, ap length c.out.view_is)) short
