use Rattle.std.proofs.Common.{◌≡◌, ◌/◌, ◌<◌, ◌^◌, ℕ, get_or}
use lib.IntN.{pos, ◌-ℤ◌}
use Rattle.heco_wide.proofs.shift.high_limbs.Given as goal

abbrev pub invariant-loop-k : goal.invariant-loop-k
invariant-loop-k l = (j : ℕ) → j < l.k → get_or l.out j (pos 0) ≡ pos (get_or l.w j 0 / 2 ^ 38) -ℤ pos (2 ^ 19)
