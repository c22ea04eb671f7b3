use Rattle.std.proofs.Common.{◌≡◌, ◌<◌, ◌^◌, ℕ, get_or}
use lib.IntN.{pos, ◌-ℤ◌}
use Rattle.heco_nums.specs.Arithmetic.{centre_q}
use Rattle.heco_wide.proofs.shift.shift_all.Given as goal

abbrev pub invariant-loop-k : goal.invariant-loop-k
invariant-loop-k l = record {
  done : (j : ℕ) → j < l.k → pos (get_or l.out j 0) -ℤ pos (2 ^ 57) ≡ centre_q (get_or l.c j 0);
  small : (j : ℕ) → j < l.k → get_or l.out j 0 < 2 ^ 58;
}
