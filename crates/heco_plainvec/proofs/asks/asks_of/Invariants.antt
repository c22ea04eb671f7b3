use Rattle.std.proofs.Common.{◌≡◌, ℕ, ◌+◌, ◌<◌, ◌++◌, [], length, get_or}
use Rattle.std.specs.List.{flat_map}
use Rattle.heco_plainvec.specs.Gathering.{asked_by, multiples, asked}
use Rattle.heco_plainvec.proofs.asks.asks_of.Given as goal

abbrev pub invariant-loop-rest : goal.invariant-loop-rest
invariant-loop-rest l = record {
  long : length l.asks.items ≡ length l.c.inputs + length l.c.gates;
  each : (a : ℕ) → a < length l.c.inputs + length l.c.gates → get_or l.asks.items a [] ++ flat_map (asked_by (multiples l.c a)) (flat_map (λ o. o.cells) l.rest) ≡ asked l.c a;
}

abbrev pub decreases-loop-rest : goal.decreases-loop-rest
decreases-loop-rest l = length l.rest
