use Rattle.std.proofs.Common.{rules, ◌≡◌, ◌∙◌, length, arith}
use lib.ListN.{drop}
use Rattle.heco_poly.specs.Poly.{IsPoly}
use Rattle.heco_poly.proofs.Written.{front, put_poly}
use Rattle.heco_poly.proofs.poly.Poly.set_four.Goals as goal

pub invariant_of-self : goal.invariant_of-self
invariant_of-self c =
    let e = rw (c.as_mut_slice.ensures.value ∙ c.self.view_is) at c.put_four.ensures in
    let w = front c.self.inside.places.len c.put_four.new.out (drop (length c.put_four.new.out) c.self.inside.places.items) (omega (arith, c.as_mut_slice.ensures.len)) in
    let long : length c.args.v ≡ 4 = search rules in
    let before : IsPoly c.args.self.now = rw (c.self.view_is) at c.self.invariant in
    rw (w, e) (put_poly c.args.i c.args.self.now c.args.v before long c.requires.inside c.requires.below)
