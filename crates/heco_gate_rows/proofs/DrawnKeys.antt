-- A list of pairs of polynomials as the rows of a key.
use Rattle.std.proofs.Common.{◌≡◌, ℕ, List, [], All, length, arith}
use Rattle.heco_scheme.specs.Keys.{AreRows}

pub rows_of : (n : ℕ) (k : List (List ℕ × List ℕ)) → length k ≡ 29 → All (λ r. (length r.0 ≡ n) × (length r.1 ≡ n)) k → AreRows n k
rows_of n k e all = record { count = e; firsts = λ i h. (all i ([], []) (omega (arith, e))).0; seconds = λ i h. (all i ([], []) (omega (arith, e))).1 }
