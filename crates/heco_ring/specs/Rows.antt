-- The product by rows: row i is a_i times x^i times b.
use Prim.Native.Nat.{ℕ, ◌+◌}
use mathlib.Core.List.{List}
use lib.IntN.{ℤ, ◌*ℤ◌}
use Rattle.heco_ring.specs.Ring.{sum_z, at, sign}

-- coefficient k of x^i b, for i below n
unfoldable pub shift_at : ℕ → List ℤ → ℕ → ℕ → ℤ
shift_at n b i k = sum_z n (λ j. at b j *ℤ sign n (i + j) k)

-- what the first j terms of row i add at place k
unfoldable pub row_at : ℕ → List ℤ → List ℤ → ℕ → ℕ → ℕ → ℤ
row_at n a b i j k = sum_z j (λ j'. at a i *ℤ at b j' *ℤ sign n (i + j') k)

-- what the first i rows come to at place k
unfoldable pub rows_at : ℕ → List ℤ → List ℤ → ℕ → ℕ → ℤ
rows_at n a b i k = sum_z i (λ i'. at a i' *ℤ shift_at n b i' k)
