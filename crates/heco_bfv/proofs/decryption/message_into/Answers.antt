use Rattle.std.proofs.Common.{ℕ, List, length, ap, ◌∙◌}
use Rattle.heco_nums.specs.declared.preset.Preset.{Preset}
use Rattle.heco_bfv.proofs.PhaseSteps.{decrypted_made}
use Rattle.heco_bfv.proofs.decryption.message_into.Goals as goal

pub returns-clause-formula : goal.returns-clause-formula
returns-clause-formula c =
    let p : Preset = c.args.s.now.preset in
    let V : List ℕ = c.as_slice-2.result.now in
    let v = rw (c.as_slice.ensures.places) at c.phase_into.ensures.formula in
    decrypted_made p c.args.s.now.places c.args.c.now c.preset.result.now.t (length c.args.phase.now) V c.round_all.new.out (ap (λ (p : Preset). p.t) c.preset.ensures) c.requires.phase
    (ap length c.as_slice-2.ensures.value ∙ c.phase_into.ensures.long) (c.as_slice-2.ensures.value ∙ v) c.round_all.ensures
