use Rattle.std.proofs.Common.{◌≡◌, ◌<◌, ℕ, get_or, length}
use Rattle.heco_measure.proofs.making.of_words.Given as goal

abbrev pub invariant-loop-k : goal.invariant-loop-k
invariant-loop-k l = record { long : length l.a ≡ l.p.n; done : (i : ℕ) → i < l.k → get_or l.a i 0 ≡ get_or l.words i 0 }
