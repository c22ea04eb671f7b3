use Rattle.std.proofs.Common.{◌∙◌}
use Rattle.heco_slots.proofs.Spreads.{coefficient_is}
use Rattle.heco_slots.proofs.table.SlotTable.coefficient.Goals as goal

pub returns : goal.returns
returns c = c.over_n.ensures ∙ rw (c.from.ensures, c.spread-sum.ensures.value) (coefficient_is c.args.self.now.preset c.args.v.now c.args.k c.back.result c.back.ensures.value)
