use Rattle.std.proofs.Common.{◌≡◌, ◌≤◌, ◌*◌}
use Rattle.heco_ring.specs.Sizes.{sum_n}
use Rattle.heco_slots.proofs.Weights.{sizes}
use Rattle.heco_slots.proofs.table.SlotTable.total_size.Given as goal

abbrev pub invariant-loop-x : goal.invariant-loop-x
invariant-loop-x l = record {
  value : l.sum ≡ sum_n l.x-index (sizes l.self.preset.t l.m);
  small : l.sum ≤ 32768 * l.x-index;
}
