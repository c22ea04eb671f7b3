use Rattle.std.proofs.Common.{◌≡◌, ◌<◌, ◌^◌, ℕ, get_or, length}
use Rattle.heco_nums.specs.Arithmetic.{centre_t}
use Rattle.heco_ring.specs.Remainders.{rem}
use Rattle.heco_bfv.proofs.plain_vector.set_all.Given as goal

abbrev pub invariant-loop-k : goal.invariant-loop-k
invariant-loop-k l = record {
  long : length l.out ≡ length l.m;
  each : (i : ℕ) → i < l.k → get_or l.out i 0 ≡ rem (2 ^ 58) (centre_t l.p.t (get_or l.m i 0));
}
