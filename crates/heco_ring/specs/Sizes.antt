-- The sizes of polynomials.
use Prim.Native.Nat.{ℕ, zero, suc, ◌+◌}
use mathlib.Core.List.{List}
use lib.IntN.{nat_abs, ℤ}
use Rattle.heco_ring.specs.Ring.{at}

-- f 0 + .. + f (n - 1)
unfoldable pub sum_n : ℕ → (ℕ → ℕ) → ℕ
sum_n zero f = 0
sum_n (suc n) f = sum_n n f + f n

-- the sum of the sizes of the coefficients
unfoldable pub weight : ℕ → List ℤ → ℕ
weight n a = sum_n n (λ i. nat_abs (at a i))
