use Rattle.std.proofs.Common.{◌∙◌, sym, ap, map, take}
use Rattle.std.proofs.lemmas.List.{take-map}
use Rattle.heco_types.specs.Names.{name_of}
use Rattle.heco_types.proofs.scope.Scope.truncate.Goals as goal

pub returns : goal.returns
returns c =
    ap (λ es. map (λ e. name_of e.0.items e.1) es) c.truncate.ensures.entries ∙ sym (take-map _ c.args.len c.self.inside.names.entries) ∙ ap (λ n. take c.args.len n) c.self.view_is
