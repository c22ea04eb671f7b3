use Rattle.std.proofs.Common.{◌≡◌, ◌<◌, ◌≤◌, ℕ, get_or, length}
use Rattle.heco_nums.specs.Arithmetic.{centre_q}
use Rattle.heco_ring.specs.Remainders.{rem}
use Rattle.heco_measure.proofs.settling.settle.Given as goal

abbrev pub invariant-loop-k : goal.invariant-loop-k
invariant-loop-k l = record {
  long : length l.x ≡ length l.fn.x;
  done : (i : ℕ) → i < l.k → get_or l.x i 0 ≡ rem l.p.t (centre_q (get_or l.fn.x i 0));
  left : (i : ℕ) → l.k ≤ i → get_or l.x i 0 ≡ get_or l.fn.x i 0;
}
