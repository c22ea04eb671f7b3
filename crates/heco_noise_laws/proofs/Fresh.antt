-- The phase of a fresh encryption: the word a cancels.
use Prim.Native.Nat.{ℕ, ◌<◌}
use lib.IntN.{ℤ}
use mathlib.Core.List.{List}
use mathlib.Core.Path.{◌≡◌}
use native.Mathlib.Omega.{arith}
use Rattle.heco_ring.proofs.Integers.{lines}
use Rattle.heco_ring.proofs.Linear.{products, places, negations}
use Rattle.heco_ring.specs.Ring.{at, times, plus, negate}

-- the phase of a fresh encryption: a cancels
pub fresh_phase : (n k : ℕ) (s a e u e1 e2 D : List ℤ) → k < n →
    at (plus n (plus n (plus n (times n (negate n (plus n (times n a s) e)) u) e1) D) (times n (plus n (times n a u) e2) s)) k
    ≡ at (plus n (plus n (negate n (times n e u)) (plus n e1 (times n e2 s))) D) k
fresh_phase n k s a e u e1 e2 D h = simp (products, negations) (simp places (omega (arith, lines)))
