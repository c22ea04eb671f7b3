use Rattle.std.proofs.Common.{ℕ, ap, ◌∙◌}
use Rattle.heco_ring.specs.Remainders.{reduced}
use Rattle.heco_ring.specs.Ring.{wholes, turn}
use Rattle.heco_scheme.specs.Noise.{q}
use Rattle.heco_measure.proofs.Settled.{settled_turned}
use Rattle.heco_measure.proofs.message_gates.turned.Goals as goal

pub returns : goal.returns
returns c =
    let p = c.args.p.now in
    let a = c.args.a.now in
    c.settle.ensures
    ∙ settled_turned p a c.requires.a c.args.r c.turn_into.new.out c.requires.r
    (c.turn_into.ensures.value ∙ ap (λ (n : ℕ). reduced q n (turn n (wholes a) c.exponent.result)) c.requires.a.long ∙ ap (λ (g : ℕ). reduced q p.n (turn p.n (wholes a) g)) c.exponent.ensures.value)
