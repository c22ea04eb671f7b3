use Rattle.std.proofs.Common.{ℕ, ◌<◌, ◌≢◌}
use Rattle.std.specs.Prelude.{slice_index}
use Rattle.heco_keys.proofs.eval.Eval.turn_key.Given as goal

abbrev pub invariant-loop-j : goal.invariant-loop-j
invariant-loop-j l = (k : ℕ) → k < l.j → slice_index l.self.needs.turns k ≢ l.r
