use Rattle.std.proofs.Common.{◌≡◌, ◌⊎◌, Err, ◌∙◌, rules, sym, ap, subst, true, false, Ok}
use Rattle.heco_types.specs.FirstBroken.{IsCause}
use Rattle.heco_types.specs.declared.refusal.TypeErr.TheVariants as e
use Rattle.heco_types.specs.Shapes.{shapes_of, AllShort}
use Rattle.heco_types.proofs.FirstFacts.{finds-cause, finds-none}
use Rattle.heco_types.proofs.OneCause.{refuses}
use Rattle.heco_types.proofs.TypedFacts.{all-short, is-typed}
use Rattle.heco_types.proofs.typed.check.Goals as goal

pub returns-in_err-preset-clause-cause : goal.returns-in_err-preset-clause-cause
returns-in_err-preset-clause-cause c =
    let cause : IsCause c.args.s c.in_err-preset.field-0.0 = finds-cause c.args.s c.requires c.in_err-preset.field-0.0 c.in_err-preset.ensures.err in
    search rules

pub returns-in_err-preset-clause-refuses : goal.returns-in_err-preset-clause-refuses
returns-in_err-preset-clause-refuses c = λ err real h.
    let cause : IsCause c.args.s c.in_err-preset.field-0.0 = finds-cause c.args.s c.requires c.in_err-preset.field-0.0 c.in_err-preset.ensures.err in
    let is : c.from_residual.result ≡ Err c.in_err-preset.field-0.0 = search rules in
    subst (λ v. (v ≡ Err err) ⊎ (v ≡ Err e.Memory)) (sym is) (refuses c.args.s (Err c.in_err-preset.field-0.0) tt cause err real h)

pub shapes-requires : goal.shapes-requires
shapes-requires c = subst AllShort (sym c.as_slice.ensures) (all-short c.args.s c.in_ok-preset.ensures.ok)

pub shapes-requires-2 : goal.shapes-requires-2
shapes-requires-2 c = subst AllShort (sym c.as_slice-2.ensures) (all-short c.args.s c.in_ok-preset.ensures.ok)

pub invariant_of-result : goal.invariant_of-result
invariant_of-result c = (
  is-typed c.args.s c.requires c.in_ok-preset.ensures.ok,
  c.in_ok-preset.ensures.preset,
  c.in_ok-preset.ensures.slots,
  c.in_ok-inputs.ensures ∙ ap (shapes_of false) c.as_slice.ensures,
  c.in_ok-outputs.ensures ∙ ap (shapes_of true) c.as_slice-2.ensures,
)

pub returns-clause-none : goal.returns-clause-none
returns-clause-none c = finds-none c.args.s c.in_ok-preset.ensures.ok

pub returns-clause-refuses : goal.returns-clause-refuses
returns-clause-refuses c = refuses c.args.s (Ok c.args.s) (finds-none c.args.s c.in_ok-preset.ensures.ok) tt
