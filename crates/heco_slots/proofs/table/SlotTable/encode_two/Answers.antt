use Rattle.std.proofs.Common.{◌∙◌, arith}
use Rattle.heco_slots.proofs.Spreads.{encoded_two_filled}
use Rattle.heco_slots.proofs.table.SlotTable.encode_two.Goals as goal

pub returns : goal.returns
returns c = encoded_two_filled c.args.self.now.preset c.args.v.now c.args.w.now c.loop-k.out (c.loop-k.auto.out ∙ c.requires.out) (λ k h. c.loop-k.invariant k (omega arith))
