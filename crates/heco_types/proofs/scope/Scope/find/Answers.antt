use Rattle.std.proofs.Common.{◌∙◌, sym, ap}
use Rattle.heco_types.specs.Names.{visible}
use Rattle.heco_types.proofs.Scopes.{visible-lookup}
use Rattle.heco_types.proofs.scope.Scope.find.Goals as goal

pub returns : goal.returns
returns c =
    c.copied.ensures ∙ c.get.ensures.value ∙ sym (visible-lookup (λ k. k.items) c.args.text.now c.self.inside.names.entries) ∙ ap (λ n. visible n c.args.text.now) c.self.view_is
