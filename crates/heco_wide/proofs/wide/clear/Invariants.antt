use Rattle.std.proofs.Common.{◌≡◌, ◌<◌, ℕ, get_or}
use lib.IntN.{pos}
use Rattle.heco_wide.proofs.wide.clear.Given as goal

abbrev pub invariant-loop-k : goal.invariant-loop-k
invariant-loop-k l = (j : ℕ) → j < l.k → get_or l.x j (pos 0) ≡ pos 0
