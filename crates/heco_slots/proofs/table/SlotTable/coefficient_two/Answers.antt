use Rattle.std.proofs.Common.{◌∙◌}
use Rattle.heco_slots.proofs.Spreads.{coefficient_of_two}
use Rattle.heco_slots.proofs.table.SlotTable.coefficient_two.Goals as goal

pub returns : goal.returns
returns c = c.over_n.ensures ∙ rw (c.from.ensures, c.from-2.ensures, c.spread-first.ensures.value, c.spread-second.ensures.value) (coefficient_of_two c.args.self.now.preset c.args.v.now c.args.w.now c.args.k c.back.result c.back.ensures.value)
