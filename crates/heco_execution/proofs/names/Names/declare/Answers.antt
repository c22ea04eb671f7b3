use Rattle.std.proofs.Common.{◌∙◌, sym}
use Rattle.heco_execution.proofs.NameLemmas.{declared_new}
use Rattle.heco_execution.proofs.names.Names.declare.Goals as goal

pub returns-in_ok-push-in-None : goal.returns-in_ok-push-in-None
returns-in_ok-push-in-None g c =
    declared_new (λ t. t.items) c.args.self.now c.self.inside.texts.keys c.self.inside.lists.items (sym c.self.view_is)
    c.in_ok-from_slice-in-None.field-0 c.args.text.now c.args.list c.insert.new.self.keys c.push.new.self.items
    c.in_ok-from_slice-in-None.ensures.items (sym c.place_of.ensures ∙ c.in-None.is) c.in_ok-insert-in-None.ensures.keys c.in_ok-push-in-None.ensures.items
