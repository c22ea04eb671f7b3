use Rattle.std.proofs.Common.{◌≡◌, ◌<◌, ℕ, get_or}
use Rattle.heco_slots.specs.Slots.{slot_of}
use Rattle.heco_slots.proofs.table.SlotTable.decode.Given as goal

abbrev pub invariant-loop-j : goal.invariant-loop-j
invariant-loop-j l = (i : ℕ) → i < l.j → get_or l.out i 0 ≡ slot_of l.self.preset l.m i
