use Rattle.std.proofs.Common.{rules, ◌≡◌, ◌^◌, length, get_or, arith, ap, SFits, to_z, to_z-of_z}
use mir.Syntax.{w8}
use lib.IntN.{pos}
use Rattle.heco_ring.specs.Ring.{wholes, at}
use Rattle.heco_ring.proofs.Remainders.{cong_self}
use Rattle.heco_poly.proofs.Products.{gathered_none, gathered_more, gathered_skip, gathered_all}
use Rattle.heco_poly.proofs.sparse.sparse.Goals as goal
use Rattle.heco_poly.proofs.sparse.sparse.Goals.{then-small-i-ne0, else-small-i-ne0}

pub loop-i-init : goal.loop-i-init
loop-i-init c = gathered_none (length c.args.b.now) c.args.small.now (wholes c.args.b.now) c.clear.new.out (λ k h. c.clear.ensures k (omega arith))

pub loop-i-preserved : goal.loop-i-preserved
unfolding at
loop-i-preserved c = elim c.if-small-i-ne0.branch [
  | then-small-i-ne0 w ↦ (
      let f : SFits w8 (get_or c.args.small.now c.loop-i.i (pos 0)) = search rules in
      let v = simp to_z-of_z at w.of_word.ensures in
      rw (w.out-is) (gathered_more (length c.args.b.now) c.loop-i.i w.of_word.result c.args.small.now (wholes c.args.b.now) c.loop-i.out w.add_row.new.out
      (rw v (cong_self (2 ^ 58) (at c.args.small.now c.loop-i.i) (omega arith))) c.loop-i.invariant (λ k h. w.add_row.ensures k (omega arith))))
  | else-small-i-ne0 w ↦ (
      let f : SFits w8 (get_or c.args.small.now c.loop-i.i (pos 0)) = search rules in
      let z = simp to_z-of_z at (ap (to_z w8) w.if-small-i-ne0.false) in
      rw (w.out-is) (gathered_skip (length c.args.b.now) c.loop-i.i c.args.small.now (wholes c.args.b.now) c.loop-i.out z c.loop-i.invariant))
]

pub returns : goal.returns
returns c =
    let e : c.loop-i.i ≡ length c.args.b.now = omega arith in
    gathered_all (length c.args.b.now) c.args.small.now (wholes c.args.b.now) c.loop-i.out c.mask.new.out (omega arith) (rw e at c.loop-i.invariant) (λ k h. c.mask.ensures k (omega arith))
