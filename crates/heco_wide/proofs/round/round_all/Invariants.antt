use Rattle.std.proofs.Common.{◌≡◌, ◌<◌, ◌^◌, ℕ, length, get_or}
use lib.IntN.{pos}
use Rattle.heco_noise_laws.specs.Noise.{rounded}
use Rattle.heco_ring.specs.Remainders.{rem}
use Rattle.heco_wide.proofs.round.round_all.Given as goal

abbrev pub invariant-loop-k : goal.invariant-loop-k
invariant-loop-k l = record {
  long : length l.out ≡ length l.x;
  done : (j : ℕ) → j < l.k → get_or l.out j 0 ≡ rem (2 ^ 58) (rounded (2 ^ 58) l.t (get_or l.x j (pos 0)));
}
