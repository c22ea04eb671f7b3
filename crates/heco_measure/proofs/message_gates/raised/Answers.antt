use Rattle.std.proofs.Common.{ℕ, List, ap, ◌∙◌}
use lib.IntN.{ℤ}
use lib.ListN.{set}
use Rattle.std.specs.Prelude.{replicate}
use Rattle.heco_bfv.proofs.Constants.{shift_first}
use Rattle.heco_ring.specs.Ring.{wholes, plus}
use Rattle.heco_measure.proofs.Settled.{copied_value, settled_raised}
use Rattle.heco_measure.proofs.message_gates.raised.Goals as goal

pub returns : goal.returns
returns c =
    let p = c.args.p.now in
    let a = c.args.a.now in
    let m = c.in_ok-m.m in
    c.settle.ensures ∙ settled_raised p a c.requires.a c.args.c c.add_in.new.self c.requires.c
    (shift_first p.n c.args.c (wholes a) c.set.new.self c.add_in.new.self (c.set.ensures ∙ ap (λ (x : List ℕ). set x 0 c.from.result) c.in_ok-constant.ensures ∙ ap (λ (v : ℕ). set (replicate p.n 0) 0 v) c.from.ensures)
    (copied_value (λ (n : ℕ) (x : List ℤ). plus n x (wholes c.set.new.self)) p.n a m c.add_in.new.self c.in_ok-m.ensures.value c.requires.a.long c.add_in.ensures.value))
