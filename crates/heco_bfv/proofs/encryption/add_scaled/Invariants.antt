use Rattle.std.proofs.Common.{◌≡◌, ◌<◌, ℕ, get_or, length}
use Rattle.heco_nums.specs.Arithmetic.{scaled}
use Rattle.heco_bfv.proofs.encryption.add_scaled.Given as goal

abbrev pub invariant-loop-k : goal.invariant-loop-k
invariant-loop-k l = record { long : length l.words ≡ l.p.n; done : (i : ℕ) → i < l.k → get_or l.words i 0 ≡ scaled l.p.t (get_or l.message i 0) }
