use Rattle.std.proofs.Common.{ℕ, List, ◌∙◌}
use lib.IntN.{ℤ}
use Rattle.heco_ring.specs.Ring.{wholes, plus, negate}
use Rattle.heco_measure.proofs.Settled.{copied_value, settled_difference}
use Rattle.heco_measure.proofs.message_gates.difference.Goals as goal

pub returns : goal.returns
returns c =
    let p = c.args.p.now in
    let a = c.args.a.now in
    let m = c.in_ok-m.m in
    c.settle.ensures ∙ settled_difference p a c.requires.a c.args.b.now c.requires.b c.sub_in.new.self
    (copied_value (λ (n : ℕ) (x : List ℤ). plus n x (negate n (wholes c.args.b.now))) p.n a m c.sub_in.new.self c.in_ok-m.ensures.value c.requires.a.long c.sub_in.ensures.value)
