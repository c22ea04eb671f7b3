use Rattle.std.proofs.Common.{◌≤◌, ◌^◌, length, arith, ap, ◌∙◌, SFits, to_z-of_z}
use mir.Syntax.{w64}
use lib.ListN.{drop}
use Rattle.heco_ring.specs.Ring.{wholes, scale}
use Rattle.heco_poly.proofs.Written.{settled, settled_poly, factor}
use Rattle.heco_poly.proofs.poly.Poly.scale_in.Goals as goal

pub invariant_of-self : goal.invariant_of-self
invariant_of-self c =
    let fx : SFits w64 c.args.c = c.ranges.c in
    let es = c.as_mut_slice.ensures.value ∙ c.self.view_is in
    let k = simp to_z-of_z at c.of.ensures in
    let n = length c.args.self.now in
    let e = (rw (es, k) at c.scale.ensures) ∙ factor (2 ^ 58) n c.args.c (wholes c.args.self.now) (omega arith) in
    let small : n ≤ 1024 = omega (arith, ap length c.self.view_is, c.self.invariant.1) in
    settled_poly n c.self.inside.places.len (scale n c.args.c (wholes c.args.self.now)) c.scale.new.a (drop (length c.scale.new.a) c.self.inside.places.items) e (omega (arith, ap length c.self.view_is)) small

pub returns-clause-value : goal.returns-clause-value
returns-clause-value c =
    let fx : SFits w64 c.args.c = c.ranges.c in
    let es = c.as_mut_slice.ensures.value ∙ c.self.view_is in
    let k = simp to_z-of_z at c.of.ensures in
    let n = length c.args.self.now in
    let e = (rw (es, k) at c.scale.ensures) ∙ factor (2 ^ 58) n c.args.c (wholes c.args.self.now) (omega arith) in
    settled (2 ^ 58) n c.self.inside.places.len (scale n c.args.c (wholes c.args.self.now)) c.scale.new.a (drop (length c.scale.new.a) c.self.inside.places.items) e (omega (arith, ap length c.self.view_is))
