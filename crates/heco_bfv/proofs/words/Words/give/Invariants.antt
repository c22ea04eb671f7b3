use Rattle.std.proofs.Common.{◌≡◌, ◌<◌, ◌%◌, ◌^◌, ℕ, length, get_or}
use Rattle.heco_bfv.proofs.words.Words.give.Given as goal

abbrev pub invariant-loop-k : goal.invariant-loop-k
invariant-loop-k l = record { long : length l.out ≡ length l.self; done : (j : ℕ) → j < l.k → get_or l.out j 0 ≡ get_or l.self j 0 % 2 ^ 58 }
