use Rattle.std.proofs.Common.{◌≡◌, ℕ, ◌+◌, ◌<◌, [], take, length, get_or}
use Rattle.std.specs.Prelude.{filter_map}
use Rattle.std.specs.List.{enumerate_from}
use Rattle.heco_plainvec.specs.Gathering.{cell_only, multiple_of}
use Rattle.heco_plainvec.proofs.groups.multiples_of.Given as goal

abbrev pub invariant-loop-i : goal.invariant-loop-i
invariant-loop-i l = record {
  long : length l.groups.items ≡ length l.c.inputs + length l.c.gates;
  each : (a : ℕ) → a < length l.c.inputs + length l.c.gates
      → get_or l.groups.items a [] ≡ filter_map (multiple_of (cell_only l.c) a) (enumerate_from (length l.c.inputs) (take l.i l.c.gates));
}
