use Rattle.std.proofs.Common.{ℕ, List, ◌∙◌}
use lib.IntN.{ℤ}
use Rattle.heco_ring.specs.Ring.{negate}
use Rattle.heco_measure.proofs.Settled.{copied_value, settled_opposite}
use Rattle.heco_measure.proofs.message_gates.opposite.Goals as goal

pub returns : goal.returns
returns c =
    let p = c.args.p.now in
    let a = c.args.a.now in
    let m = c.in_ok-m.m in
    c.settle.ensures ∙ settled_opposite p a c.requires c.neg_in.new.self (copied_value (λ (n : ℕ) (x : List ℤ). negate n x) p.n a m c.neg_in.new.self c.in_ok-m.ensures.value c.requires.long c.neg_in.ensures.value)
