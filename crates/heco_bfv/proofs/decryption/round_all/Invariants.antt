use Rattle.std.proofs.Common.{◌≡◌, ◌<◌, ◌^◌, ℕ, get_or}
use lib.IntN.{pos}
use Rattle.heco_ring.specs.Remainders.{rem}
use Rattle.heco_noise_laws.specs.Noise.{rounded}
use Rattle.heco_bfv.proofs.decryption.round_all.Given as goal

abbrev pub invariant-loop-k : goal.invariant-loop-k
invariant-loop-k l = (i : ℕ) → i < l.k → get_or l.out i 0 ≡ rem l.t (rounded (2 ^ 58) l.t (pos (get_or l.z i 0)))
