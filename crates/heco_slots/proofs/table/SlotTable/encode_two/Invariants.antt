use Rattle.std.proofs.Common.{◌≡◌, ◌<◌, ℕ, get_or}
use Rattle.heco_slots.specs.Rows.{encoded_two_at}
use Rattle.heco_slots.proofs.table.SlotTable.encode_two.Given as goal

abbrev pub invariant-loop-k : goal.invariant-loop-k
invariant-loop-k l = (i : ℕ) → i < l.k → get_or l.out i 0 ≡ encoded_two_at l.self.preset l.v l.w i
