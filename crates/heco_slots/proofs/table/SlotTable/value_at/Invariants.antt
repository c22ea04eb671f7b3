use Rattle.std.proofs.Common.{◌*◌, ◌^◌}
use lib.IntN.{pos, ◌*ℤ◌}
use Rattle.heco_ring.specs.Ring.{at, wholes}
use Rattle.heco_slots.proofs.Terms.{Summed}
use Rattle.heco_slots.proofs.table.SlotTable.value_at.Given as goal

abbrev pub invariant-loop-k : goal.invariant-loop-k
invariant-loop-k l = Summed l.self.preset.t l.k l.sum (λ k. at (wholes l.m) k *ℤ pos (l.self.preset.zeta ^ (k * l.step)))
