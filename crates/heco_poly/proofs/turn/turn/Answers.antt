use Rattle.std.proofs.Common.{◌≡◌, ◌^◌, ℕ, length, arith, sym, ap, ◌∙◌}
use Rattle.heco_ring.proofs.Reduced.{filled}
use Rattle.heco_ring.proofs.Turns.{at-turn}
use Rattle.heco_ring.specs.Remainders.{rem}
use Rattle.heco_ring.specs.Ring.{wholes, turn}
use Rattle.heco_poly.proofs.Changes.{turned_none, turned_up, turned_down, turned_all}
use Rattle.heco_poly.proofs.turn.turn.Goals as goal
use Rattle.heco_poly.proofs.turn.turn.Goals.{then-place-n, else-place-n}

pub loop-i-init : goal.loop-i-init
loop-i-init c = turned_none (2 ^ 58) (length c.args.a.now) c.args.g c.args.a.now c.clear.new.out (omega arith) (λ k h. c.clear.ensures k (omega arith))

pub returns : goal.returns
returns c =
    let n : ℕ = length c.args.a.now in
    let e : c.loop-i.i ≡ length c.args.a.now = omega arith in
    filled (2 ^ 58) n (turn n (wholes c.args.a.now) c.args.g) c.loop-i.out (omega arith) (λ k h.
    (rw (e, turned_all n c.args.g k (wholes c.args.a.now)) at (c.loop-i.invariant.each k (omega arith))) ∙ ap (rem (2 ^ 58)) (sym (at-turn n c.args.g k (wholes c.args.a.now) h)))

pub loop-i-preserved : goal.loop-i-preserved
loop-i-preserved c = elim c.if-place-n.branch [
  | then-place-n w ↦ rw (w.out-is) (turned_up (2 ^ 58) (length c.args.a.now) c.args.g c.loop-i.i w.add.result c.args.a.now c.loop-i.out (omega arith) (omega arith) w.if-place-n.true c.loop-i.invariant w.add.ensures)
  | else-place-n w ↦ rw (w.out-is) (turned_down (2 ^ 58) (length c.args.a.now) c.args.g c.loop-i.i w.sub.result c.args.a.now c.loop-i.out (omega arith) (omega arith) (omega arith) w.if-place-n.false c.loop-i.invariant w.sub.ensures)
]
