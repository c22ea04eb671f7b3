use Rattle.std.proofs.Common.{◌≡◌, ℕ, ◌<◌, length, get_or}
use Rattle.heco_keys.proofs.coefficients.poly_of.Given as goal

abbrev pub invariant-loop-i : goal.invariant-loop-i
invariant-loop-i l = record {
  long : length l.out ≡ l.p.n;
  same : (k : ℕ) → k < l.i → get_or l.out k 0 ≡ get_or l.words k 0;
}
