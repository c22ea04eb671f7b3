-- The sums of a switch of keys, digit by digit.
use Prim.Native.Nat.{ℕ, ◌^◌}
use mathlib.Core.List.{List}
use mathlib.Core.Path.{◌≡◌}
use Rattle.heco_ring.specs.Ring.{wholes, times, sum_lists}
use Rattle.heco_scheme.specs.Gates.{digits}
use Rattle.heco_scheme.specs.Keys.{row}
use Rattle.heco_transform.specs.Halves.{AreSums}
use Rattle.heco_transform.specs.declared.half.HalfSums.{HalfSums}

-- x and y have the first i digits of b times the first and the second parts of the first i rows of the key k
pub record AreGained (depth : ℕ) (b : List ℕ) (k : List (List ℕ × List ℕ)) (i : ℕ) (x y : HalfSums) : Type 0 where
  pub first_count : x.low.count ≡ i
  pub second_count : y.low.count ≡ i
  pub first : AreSums depth (sum_lists (2 ^ depth) i (λ j. times (2 ^ depth) (digits (2 ^ depth) b j) (wholes (row k j).0))) x
  pub second : AreSums depth (sum_lists (2 ^ depth) i (λ j. times (2 ^ depth) (digits (2 ^ depth) b j) (wholes (row k j).1))) y
