use Rattle.std.proofs.Common.{sym}
use Rattle.heco_execution.proofs.NameLemmas.{first_kept}
use Rattle.heco_execution.proofs.names.Names.keep_first.Goals as goal

pub returns : goal.returns
returns g c =
    first_kept (λ t. t.items) c.args.self.now c.self.inside.texts.keys c.self.inside.lists.items (sym c.self.view_is) c.args.count
    c.truncate.new.self.keys c.truncate-2.new.self.items c.truncate.ensures.keys c.truncate-2.ensures.items
