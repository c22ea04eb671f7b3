use Rattle.std.proofs.Common.{◌≡◌, ◌^◌, length, get_or, arith, sym}
use lib.IntN.{pos}
use Rattle.heco_ring.specs.Ring.{wholes}
use Rattle.heco_ring.proofs.Remainders.{cong_eq}
use Rattle.heco_ring.proofs.Wrapping.{at-wholes}
use Rattle.heco_ring.specs.Ring.{at}
use Rattle.heco_poly.proofs.Products.{gathered_none, gathered_more, gathered_all}
use Rattle.heco_poly.proofs.product.product.Goals as goal

pub loop-i-init : goal.loop-i-init
loop-i-init c = gathered_none (length c.args.a.now) (wholes c.args.a.now) (wholes c.args.b.now) c.clear.new.out (λ k h. c.clear.ensures k (omega arith))

pub loop-i-preserved : goal.loop-i-preserved
loop-i-preserved c =
    let lb : length c.args.b.now ≡ length c.args.a.now = omega arith in
    let row = rw lb at c.add_row.ensures in
    let x = get_or c.args.a.now c.loop-i.i 0 in
    gathered_more (length c.args.a.now) c.loop-i.i x (wholes c.args.a.now) (wholes c.args.b.now) c.loop-i.out c.add_row.new.out
    (cong_eq (2 ^ 58) (pos x) (at (wholes c.args.a.now) c.loop-i.i) (sym (at-wholes c.args.a.now c.loop-i.i))) c.loop-i.invariant (λ k h. row k (omega arith))

pub returns : goal.returns
returns c =
    let e : c.loop-i.i ≡ length c.args.a.now = omega arith in
    gathered_all (length c.args.a.now) (wholes c.args.a.now) (wholes c.args.b.now) c.loop-i.out c.mask.new.out (omega arith) (rw e at c.loop-i.invariant) (λ k h. c.mask.ensures k (omega arith))
