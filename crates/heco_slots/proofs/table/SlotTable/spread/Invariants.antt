use Rattle.heco_slots.proofs.Spreads.{powers}
use Rattle.heco_slots.proofs.Terms.{Summed}
use Rattle.heco_slots.proofs.table.SlotTable.spread.Given as goal

abbrev pub invariant-loop-j : goal.invariant-loop-j
invariant-loop-j l = Summed l.self.preset.t l.j l.sum (powers l.self.preset l.v l.step)
