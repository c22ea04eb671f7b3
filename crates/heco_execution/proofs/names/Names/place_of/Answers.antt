use Rattle.std.proofs.Common.{sym}
use Rattle.heco_execution.proofs.NameLemmas.{place_among}
use Rattle.heco_execution.proofs.names.Names.place_of.Goals as goal

pub returns : goal.returns
returns g c =
    place_among (λ t. t.items) c.args.self.now c.self.inside.texts.keys c.self.inside.lists.items (sym c.self.view_is) c.args.text.now c.get_index_of.result c.get_index_of.ensures.index
