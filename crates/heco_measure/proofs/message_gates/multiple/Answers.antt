use Rattle.std.proofs.Common.{rules, ℕ, List, ◌∙◌, SFits, to_z-of_z}
use Rattle.std.specs.Int.{w64}
use lib.IntN.{ℤ, pos}
use Rattle.heco_ring.specs.Ring.{scale}
use Rattle.heco_measure.proofs.Settled.{copied_value, settled_multiple}
use Rattle.heco_measure.proofs.message_gates.multiple.Goals as goal

pub returns : goal.returns
returns c =
    let p = c.args.p.now in
    let a = c.args.a.now in
    let m = c.in_ok-m.m in
    let fits : SFits w64 c.whole.result = search rules in
    let scaled = simp to_z-of_z at c.scale_in.ensures.value in
    c.settle.ensures ∙ settled_multiple p a c.requires.a c.args.c c.scale_in.new.self c.requires.c
    (copied_value (λ (n : ℕ) (x : List ℤ). scale n (pos c.args.c) x) p.n a m c.scale_in.new.self c.in_ok-m.ensures.value c.requires.a.long (rw (c.whole.ensures.value) at scaled))
