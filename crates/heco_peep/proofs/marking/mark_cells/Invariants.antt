use Rattle.std.proofs.Common.{◌≡◌, ℕ, ◌<◌, ◌||◌, length, false}
use Rattle.std.specs.Prelude.{slice_index_or}
use Rattle.std.specs.List.{list_any}
use Rattle.heco_peep.specs.Passed.{names_wire}
use Rattle.heco_peep.proofs.marking.mark_cells.Given as goal

abbrev pub invariant-loop-rest : goal.invariant-loop-rest
invariant-loop-rest l = record {
  long : length l.marks ≡ length l.initial.marks;
  each : (a : ℕ) → a < length l.initial.marks → (slice_index_or l.marks a false || list_any (names_wire a) l.rest) ≡ (slice_index_or l.initial.marks a false || list_any (names_wire a) l.cells);
}

abbrev pub decreases-loop-rest : goal.decreases-loop-rest
decreases-loop-rest l = length l.rest
