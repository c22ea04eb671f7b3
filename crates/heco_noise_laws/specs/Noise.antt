-- The noise of a value for a message. After Fan and Vercauteren, ePrint 2012/144; the rounding of halves is our own.
use Prim.Native.Nat.{ℕ, ◌-◌, ◌*◌, ◌/◌, ◌<◌, ◌≤◌, min}
use mathlib.Core.List.{List}
use lib.IntN.{ℤ, pos, ◌+ℤ◌, ◌-ℤ◌, ◌*ℤ◌}
use Rattle.heco_ring.specs.Remainders.{rem, quo}
use Rattle.heco_ring.specs.Ring.{at, table, plus, times}

-- the least size of a number that is x modulo M
unfoldable pub size : ℕ → ℤ → ℕ
size M x = min (rem M x) (M - rem M x)

-- c0 + c1 s + c2 s s
unfoldable pub phase : ℕ → List ℤ → List ℤ → List ℤ → List ℤ → List ℤ
phase n s c0 c1 c2 = plus n (plus n c0 (times n c1 s)) (times n (times n c2 s) s)

-- each coefficient of t z - q m is modulo q t of size E or less
pub record NoiseAtMost (n q t : ℕ) (z m : List ℤ) (E : ℕ) : Type 0 where
  pub within : (k : ℕ) → k < n → size (q * t) (pos t *ℤ at z k -ℤ pos q *ℤ at m k) ≤ E

-- t x / q to the nearest whole number; halves go up
unfoldable pub rounded : ℕ → ℕ → ℤ → ℤ
rounded q t x = quo q (pos t *ℤ x +ℤ pos (q / 2))

-- each coefficient of x, times t / q and rounded
unfoldable pub round_part : ℕ → ℕ → ℕ → List ℤ → List ℤ
round_part n q t x = table n (λ k. rounded q t (at x k))
