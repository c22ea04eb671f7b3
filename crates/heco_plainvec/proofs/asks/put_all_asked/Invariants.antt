use Rattle.std.proofs.Common.{◌≡◌, ℕ, ◌<◌, ◌++◌, [], length, get_or}
use Rattle.std.specs.List.{flat_map}
use Rattle.heco_plainvec.specs.Gathering.{asked_by, multiples}
use Rattle.heco_plainvec.proofs.asks.put_all_asked.Given as goal

abbrev pub invariant-loop-rest : goal.invariant-loop-rest
invariant-loop-rest l = record {
  long : length l.asks.items ≡ length l.fn.asks.items;
  each : (a : ℕ) → a < length l.fn.asks.items
      → get_or l.asks.items a [] ++ flat_map (asked_by (multiples l.c a)) l.rest ≡ get_or l.fn.asks.items a [] ++ flat_map (asked_by (multiples l.c a)) l.cells;
}

abbrev pub decreases-loop-rest : goal.decreases-loop-rest
decreases-loop-rest l = length l.rest
