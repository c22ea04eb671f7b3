use Rattle.std.proofs.Common.{◌∙◌, ℕ, List, length, sym, ap}
use Rattle.heco_scheme.specs.Noise.{noise}
use Rattle.heco_measure.proofs.noise.noise.Goals as goal

pub greatest_gap-requires-clause-long : goal.greatest_gap-requires-clause-long
greatest_gap-requires-clause-long c = ap length c.as_slice-2.ensures.value ∙ c.requires.m.long ∙ sym (ap length c.as_slice.ensures.value ∙ c.in_ok-phase.ensures.long)

pub returns : goal.returns
returns c =
    let p = c.args.s.now.preset in
    c.greatest_gap.ensures p c.args.s.now.places c.args.c.now (sym (ap (λ q. q.t) c.preset.ensures)) (sym (ap length c.as_slice.ensures.value ∙ c.in_ok-phase.ensures.long)) (c.as_slice.ensures.value ∙ c.in_ok-phase.ensures.value)
    ∙ ap (λ (m : List ℕ). noise p c.args.s.now.places c.args.c.now m) c.as_slice-2.ensures.value
