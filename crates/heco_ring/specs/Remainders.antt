-- Remainders of whole numbers and of polynomials, and congruence.
use Prim.Native.Nat.{ℕ, suc, ◌-◌, ◌/◌, ◌%◌, ◌<◌}
use mathlib.Core.List.{List, map}
use mathlib.Core.Path.{◌≡◌}
use lib.IntN.{ℤ, pos, negsuc, ◌+ℤ◌, ◌*ℤ◌}
use Rattle.std.specs.List.{range_with_len}
use Rattle.heco_ring.specs.Ring.{at}

-- the remainder of z by q, from 0 to q - 1; negsuc a is -(a + 1)
unfoldable pub rem : ℕ → ℤ → ℕ
rem q (pos a) = a % q
rem q (negsuc a) = q - suc (a % q)

-- the quotient, rounded down
unfoldable pub quo : ℕ → ℤ → ℤ
quo q (pos a) = pos (a / q)
quo q (negsuc a) = negsuc (a / q)

-- the first n coefficients modulo q
unfoldable pub reduced : ℕ → ℕ → List ℤ → List ℕ
reduced q n a = map (λ k. rem q (at a k)) (range_with_len 0 n)

-- a and b differ by a multiple of q
pub record Cong (q : ℕ) (a b : ℤ) : Type 0 where
  pub by : ℤ
  pub is : a ≡ b +ℤ pos q *ℤ by

-- the first n coefficients agree modulo q
pub record Same (q n : ℕ) (a b : List ℤ) : Type 0 where
  pub each : (k : ℕ) → k < n → Cong q (at a k) (at b k)
