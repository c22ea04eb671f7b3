use Rattle.std.proofs.Common.{◌∙◌, arith}
use Rattle.heco_slots.proofs.PresetSlots.{encoded_filled}
use Rattle.heco_slots.proofs.table.SlotTable.encode.Goals as goal

pub returns : goal.returns
returns c = encoded_filled c.args.self.now.preset c.args.v.now c.loop-k.out (c.loop-k.auto.out ∙ c.requires.out) (λ k h. c.loop-k.invariant k (omega arith))
