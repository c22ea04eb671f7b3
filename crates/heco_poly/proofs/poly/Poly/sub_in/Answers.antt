use Rattle.std.proofs.Common.{◌≤◌, length, arith, ap, ◌∙◌}
use lib.ListN.{drop}
use Rattle.heco_ring.specs.Ring.{wholes, plus, negate}
use Rattle.heco_poly.proofs.Written.{settled_poly}
use Rattle.heco_poly.proofs.poly.Poly.sub_in.Goals as goal

pub invariant_of-self : goal.invariant_of-self
invariant_of-self c =
    let es = c.as_mut_slice.ensures.value ∙ c.self.view_is in
    let eo = c.as_slice.ensures.value ∙ c.o.view_is in
    let e = rw (es, eo) at c.sub.ensures in
    let n = length c.args.self.now in
    let small : n ≤ 1024 = omega (arith, ap length c.self.view_is, c.self.invariant.1) in
    settled_poly n c.self.inside.places.len (plus n (wholes c.args.self.now) (negate n (wholes c.args.o.now))) c.sub.new.a (drop (length c.sub.new.a) c.self.inside.places.items) e (omega (arith, ap length c.self.view_is)) small
