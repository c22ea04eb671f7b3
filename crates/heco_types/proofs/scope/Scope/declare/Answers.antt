use Rattle.std.proofs.Common.{◌∙◌, sym, ap, map, [], ◌∷◌, ◌++◌}
use Rattle.indexmap.proofs.CallerLemmas.{insert_entry-new}
use Rattle.heco_types.specs.Names.{name_of, visible}
use Rattle.heco_types.proofs.Scopes.{visible-lookup, map-push}
use Rattle.heco_types.proofs.scope.Scope.declare.Goals as goal

pub returns : goal.returns
returns c =
    let key = c.in_ok-key.key in
    let names = c.self.inside.names in
    let absent = sym (visible-lookup (λ k. k.items) key.items names.entries) ∙ ap (λ n. visible n key.items) c.self.view_is ∙ ap (λ t. visible c.args.self.now t) c.in_ok-key.ensures.items ∙ c.requires in
    ap (λ es. map (λ e. name_of e.0.items e.1) es) (c.in_ok-insert.ensures.entries ∙ insert_entry-new _ names key c.args.entity absent) ∙ map-push (λ k. k.items) names.entries key c.args.entity
    ∙ ap (λ n. n ++ name_of key.items c.args.entity ∷ []) c.self.view_is ∙ ap (λ t. c.args.self.now ++ name_of t c.args.entity ∷ []) c.in_ok-key.ensures.items
