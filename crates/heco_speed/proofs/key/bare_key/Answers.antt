use Rattle.std.proofs.Common.{◌≡◌, ℕ, List, [], All, length, arith}
use Rattle.heco_scheme.specs.Keys.{AreRows}
use Rattle.heco_speed.proofs.key.bare_key.Goals as goal

rows_of : (n : ℕ) (k : List (List ℕ × List ℕ)) → length k ≡ 29 → All (λ r. (length r.0 ≡ n) × (length r.1 ≡ n)) k → AreRows n k
rows_of n k e all = record { count = e; firsts = λ i h. (all i ([], []) (omega (arith, e))).0; seconds = λ i h. (all i ([], []) (omega (arith, e))).1 }

pub of-requires : goal.of-requires
of-requires c = omega (arith, c.loop-i.invariant.count, c.loop-i.auto.i-end)

pub returns : goal.returns
returns c = rw c.of.ensures (rows_of c.args.p.now.n c.loop-i.rows (omega (arith, c.loop-i.invariant.count, c.loop-i.auto.i-end)) c.loop-i.invariant.long)
