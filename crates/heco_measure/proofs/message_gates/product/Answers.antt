use Rattle.std.proofs.Common.{ℕ, ap, ◌∙◌}
use Rattle.heco_ring.specs.Remainders.{reduced}
use Rattle.heco_ring.specs.Ring.{wholes, times}
use Rattle.heco_scheme.specs.Noise.{q}
use Rattle.heco_measure.proofs.Settled.{settled_product}
use Rattle.heco_measure.proofs.message_gates.product.Goals as goal

pub returns : goal.returns
returns c =
    let p = c.args.p.now in
    let a = c.args.a.now in
    let b = c.args.b.now in
    c.settle.ensures
    ∙ settled_product p a c.requires.a b c.requires.b c.mul_into.new.out (c.mul_into.ensures.value ∙ ap (λ (n : ℕ). reduced q n (times n (wholes a) (wholes b))) c.requires.a.long)
