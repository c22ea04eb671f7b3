use Rattle.std.proofs.Common.{◌≡◌, ℕ, ◌+◌, ◌<◌, ◌≤◌, length, drop, false}
use Rattle.std.specs.Prelude.{slice_index_or}
use Rattle.heco_rewrites.specs.Needed.{needed}
use Rattle.heco_peep.specs.inside.Dropped.{is_marked}
use Rattle.heco_peep.proofs.marking.mark_needed.Given as goal

abbrev pub invariant-loop-i : goal.invariant-loop-i
invariant-loop-i l = record {
  within : l.i ≤ length l.gates;
  long : length l.marks ≡ l.inputs + length l.gates;
  each : (a : ℕ) → a < l.inputs + length l.gates → slice_index_or l.marks a false ≡ needed (is_marked l.initial.marks) (l.inputs + l.i) (drop l.i l.gates) a;
}

abbrev pub decreases-loop-i : goal.decreases-loop-i
decreases-loop-i l = l.i
