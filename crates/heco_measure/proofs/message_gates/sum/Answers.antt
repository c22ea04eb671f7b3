use Rattle.std.proofs.Common.{ℕ, List, ◌∙◌}
use lib.IntN.{ℤ}
use Rattle.heco_ring.specs.Ring.{wholes, plus}
use Rattle.heco_measure.proofs.Settled.{copied_value, settled_sum}
use Rattle.heco_measure.proofs.message_gates.sum.Goals as goal

pub returns : goal.returns
returns c =
    let p = c.args.p.now in
    let a = c.args.a.now in
    let m = c.in_ok-m.m in
    c.settle.ensures ∙ settled_sum p a c.requires.a c.args.b.now c.requires.b c.add_in.new.self
    (copied_value (λ (n : ℕ) (x : List ℤ). plus n x (wholes c.args.b.now)) p.n a m c.add_in.new.self c.in_ok-m.ensures.value c.requires.a.long c.add_in.ensures.value)
