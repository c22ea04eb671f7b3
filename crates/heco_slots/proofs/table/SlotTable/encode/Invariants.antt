use Rattle.std.proofs.Common.{◌≡◌, ◌<◌, ℕ, get_or}
use Rattle.heco_ring.specs.Slots.{encode_at}
use Rattle.heco_slots.proofs.table.SlotTable.encode.Given as goal

abbrev pub invariant-loop-k : goal.invariant-loop-k
invariant-loop-k l = (i : ℕ) → i < l.k → get_or l.out i 0 ≡ encode_at l.self.preset.n l.self.preset.t l.self.preset.zeta l.self.preset.ninv l.self.preset.slots l.v i
