use Rattle.std.proofs.Common.{◌≡◌, ◌<◌, ℕ, false, ◌||◌, length, get_or}
use Rattle.std.specs.List.{list_any}
use Rattle.heco_circuit.specs.Needs.{turns_by}
use Rattle.heco_circuit.proofs.key_needs.marks.Given as goal

abbrev pub invariant-loop-rest : goal.invariant-loop-rest
invariant-loop-rest l = (q : ℕ) → q < 512 → (get_or l.seen q false || list_any (turns_by q) l.rest) ≡ list_any (turns_by q) l.gates

abbrev pub decreases-loop-rest : goal.decreases-loop-rest
decreases-loop-rest l = length l.rest
