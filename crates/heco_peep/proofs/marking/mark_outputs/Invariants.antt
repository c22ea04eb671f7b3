use Rattle.std.proofs.Common.{◌≡◌, ℕ, ◌<◌, ◌||◌, length, false}
use Rattle.std.specs.Prelude.{slice_index_or}
use Rattle.heco_peep.specs.Passed.{shows}
use Rattle.heco_peep.proofs.marking.mark_outputs.Given as goal

abbrev pub invariant-loop-rest : goal.invariant-loop-rest
invariant-loop-rest l = record {
  long : length l.marks ≡ length l.initial.marks;
  each : (a : ℕ) → a < length l.initial.marks → (slice_index_or l.marks a false || shows l.rest a) ≡ (slice_index_or l.initial.marks a false || shows l.outputs a);
}

abbrev pub decreases-loop-rest : goal.decreases-loop-rest
decreases-loop-rest l = length l.rest
