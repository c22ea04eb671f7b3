use Rattle.std.proofs.Common.{◌≡◌, ◌<◌, ◌*◌, ◌-◌, ℕ, get_or, length}
use Rattle.heco_slots.specs.Rows.{slot_in}
use Rattle.heco_slots.proofs.table.SlotTable.decode_two.Given as goal

abbrev pub invariant-loop-j : goal.invariant-loop-j
invariant-loop-j l = record {
  long : length l.second ≡ l.self.preset.slots;
  first : (i : ℕ) → i < l.j → get_or l.first i 0 ≡ slot_in l.self.preset 1 l.m i;
  second : (i : ℕ) → i < l.j → get_or l.second i 0 ≡ slot_in l.self.preset (2 * l.self.preset.n - 1) l.m i;
}
