use Rattle.std.proofs.Common.{sym, subst, true}
use Rattle.std.specs.List.{All}
use Rattle.heco_types.specs.Presets.{slots_named}
use Rattle.heco_types.specs.Statements.{most}
use Rattle.heco_types.specs.Typing.{IsWithin}
use Rattle.heco_types.proofs.TypedFacts.{shapes-within}
use Rattle.heco_types.proofs.typed.Typed.outputs.Goals as goal

pub returns-clause-lengths : goal.returns-clause-lengths
returns-clause-lengths c =
    let t = c.self.inside in
    subst (λ x. All (IsWithin most) t.outputs) c.self.view_is
    (subst (All (IsWithin most)) (sym c.self.invariant.4) (shapes-within (slots_named t.source.params.text) true t.source.ports c.self.invariant.0.parameters.lengths))
