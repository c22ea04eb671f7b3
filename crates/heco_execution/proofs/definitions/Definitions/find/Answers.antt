use Rattle.std.proofs.Common.{◌∙◌, sym, ap}
use Rattle.heco_execution.specs.Definitions.{last_named}
use Rattle.heco_execution.proofs.DefinitionLemmas.{last_of_first, some_within}
use Rattle.heco_execution.proofs.definitions.Definitions.find.Goals as goal

pub returns-in-Some-clause-found : goal.returns-in-Some-clause-found
returns-in-Some-clause-found c =
    let last = sym (c.copied.ensures ∙ c.get.ensures.value ∙ c.index.invariant c.args.name.now ∙ ap (last_named c.args.name.now) c.index.view_is) ∙ c.in-Some.is in
    sym (last_of_first c.args.name.now c.self.inside.index.now c.self.inside.visible.now c.in-Some.k c.self.invariant last c.if-k-self.true)
    ∙ ap (last_named c.args.name.now) c.self.view_is

pub returns-in_default-clause-within : goal.returns-in_default-clause-within
returns-in_default-clause-within c = some_within c.args.name.now c.args.self.now c.last_named.result (c.last_named.ensures ∙ ap (last_named c.args.name.now) c.self.view_is)
