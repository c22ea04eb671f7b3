-- The images of the rows of a switch key, under the transform of polynomials of 2^depth places.
use Prim.Native.Nat.{ℕ}
use mathlib.Core.List.{List}
use mathlib.Core.Path.{◌≡◌}
use lib.ListN.{length}
use Rattle.std.specs.Prelude.{Some, slice_get}
use Rattle.heco_scheme.specs.Keys.{row}
use Rattle.heco_transform.specs.Halves.{HalvesFit, AreHalves}
use Rattle.heco_transform.specs.declared.half.Halves.{Halves}

-- x has the images of the halves of both parts of the pair r
pub record ArePairImages (depth : ℕ) (r : List ℕ × List ℕ) (x : Halves × Halves) : Type 0 where
  pub first_fits : HalvesFit depth x.0
  pub second_fits : HalvesFit depth x.1
  pub first : AreHalves depth r.0 x.0
  pub second : AreHalves depth r.1 x.1

-- item i has the images of row i, for each of 29 rows
pub record AreRowImages (depth : ℕ) (rows : List (List ℕ × List ℕ)) (images : List (Halves × Halves)) : Type 0 where
  pub count : length images ≡ 29
  pub each : (i : ℕ) (x : Halves × Halves) → slice_get images i ≡ Some x → ArePairImages depth (row rows i) x
