use Rattle.std.proofs.Common.{◌≡◌, ℕ, sym, ap, ◌∙◌, arith}
use Rattle.heco_scheme.specs.Noise.{greatest}
use Rattle.heco_measure.proofs.Gaps.{gap_at, greatest_none, greatest_risen, greatest_stays, noise_is}
use Rattle.heco_measure.proofs.noise.greatest_gap.Goals as goal
use Rattle.heco_measure.proofs.noise.greatest_gap.Goals.{then-most-here, else-most-here}

pub loop-k-init : goal.loop-k-init
loop-k-init c = greatest_none (gap_at c.args.t c.args.z.now c.args.m.now)

pub loop-k-preserved : goal.loop-k-preserved
loop-k-preserved c =
    let f : ℕ → ℕ = gap_at c.args.t c.args.z.now c.args.m.now in
    elim (c.if-most-here.branch) [
      | then-most-here w ↦ w.most-is ∙ greatest_risen c.loop-k.k c.loop-k.most c.gap-here.result f c.loop-k.invariant c.gap-here.ensures w.if-most-here.true
      | else-most-here w ↦ w.most-is ∙ greatest_stays c.loop-k.k c.loop-k.most c.gap-here.result f c.loop-k.invariant c.gap-here.ensures (omega (arith, w.if-most-here.false))
    ]

pub returns : goal.returns
returns c = λ p s ct same long phase.
    let end : c.loop-k.k ≡ p.n = omega (arith, long, c.loop-k-test.false, c.loop-k.auto.k-end) in
    c.loop-k.invariant ∙ ap (λ (k : ℕ). greatest k (gap_at c.args.t c.args.z.now c.args.m.now)) end
    ∙ ap (λ (t : ℕ). greatest p.n (gap_at t c.args.z.now c.args.m.now)) (sym same) ∙ noise_is p s ct c.args.m.now c.args.z.now phase
