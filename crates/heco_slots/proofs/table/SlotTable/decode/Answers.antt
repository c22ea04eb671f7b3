use Rattle.std.proofs.Common.{◌∙◌, arith}
use Rattle.heco_slots.proofs.PresetSlots.{decoded_filled}
use Rattle.heco_slots.proofs.table.SlotTable.decode.Goals as goal

pub returns : goal.returns
returns c = decoded_filled c.args.self.now.preset c.args.m.now c.loop-j.out (c.loop-j.auto.out ∙ c.requires.out) (λ j h. c.loop-j.invariant j (omega arith))
