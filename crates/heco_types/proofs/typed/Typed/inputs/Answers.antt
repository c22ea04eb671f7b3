use Rattle.std.proofs.Common.{sym, subst, false}
use Rattle.std.specs.List.{All}
use Rattle.heco_types.specs.Presets.{slots_named}
use Rattle.heco_types.specs.Typing.{IsWithin}
use Rattle.heco_types.proofs.TypedFacts.{shapes-within}
use Rattle.heco_types.proofs.typed.Typed.inputs.Goals as goal

pub returns-clause-lengths : goal.returns-clause-lengths
returns-clause-lengths c =
    let t = c.self.inside in
    subst (λ x. All (IsWithin (slots_named x.params.text)) t.inputs) c.self.view_is
    (subst (All (IsWithin (slots_named t.source.params.text))) (sym c.self.invariant.3) (shapes-within (slots_named t.source.params.text) false t.source.ports c.self.invariant.0.parameters.lengths))
