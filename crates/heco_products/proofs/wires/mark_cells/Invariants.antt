use Rattle.std.proofs.Common.{◌≡◌, ◌<◌, ℕ, false, ◌||◌, length, get_or}
use Rattle.std.specs.List.{list_any}
use Rattle.heco_run_laws.specs.Results.{is_slot_of}
use Rattle.heco_products.proofs.wires.mark_cells.Given as goal

abbrev pub invariant-loop-rest : goal.invariant-loop-rest
invariant-loop-rest l = (w : ℕ) → w < length l.wires → (get_or l.wires w false || list_any (is_slot_of w) l.rest) ≡ (get_or l.initial.wires w false || list_any (is_slot_of w) l.cells)

abbrev pub decreases-loop-rest : goal.decreases-loop-rest
decreases-loop-rest l = length l.rest
