use Rattle.std.proofs.Common.{◌∙◌}
use Rattle.heco_slots.proofs.Weights.{two_below, vector_weight_is}
use Rattle.heco_slots.proofs.table.SlotTable.vector_weight.Goals as goal

pub total_size-requires-clause-below : goal.total_size-requires-clause-below
total_size-requires-clause-below c = rw c.encode_two.ensures (two_below c.args.self.now.preset c.args.v.now c.args.v.now)

pub returns-clause-value : goal.returns-clause-value
returns-clause-value c = c.total_size.ensures.value ∙ rw c.encode_two.ensures (vector_weight_is c.args.self.now.preset c.args.v.now)
