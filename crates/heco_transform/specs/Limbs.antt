-- Polynomials of words by the images of three limbs of 20 bits.
use Prim.Native.Nat.{ℕ, ◌^◌, ◌<◌, ◌≤◌}
use mathlib.Core.List.{List}
use mathlib.Core.Path.{◌≡◌}
use lib.IntN.{ℤ, nat_abs}
use lib.ListN.{length, get_or}
use Rattle.heco_ring.specs.Ring.{at, wholes}
use Rattle.heco_transform.specs.Images.{ImageFits, IsImageOf, bit_fields}
use Rattle.heco_transform.specs.declared.product.Limbs.{Limbs}

-- the coefficients are at most 2^20 in size
pub record IsLimb (n : ℕ) (a : List ℤ) : Type 0 where
  pub each : (k : ℕ) → k < n → nat_abs (at a k) ≤ 2 ^ 20

-- the three images have 2^depth words
pub record LimbsFit (depth : ℕ) (l : Limbs) : Type 0 where
  pub low : ImageFits depth l.low
  pub middle : ImageFits depth l.middle
  pub high : ImageFits depth l.high

-- l has the images of the limbs of K
pub record AreLimbs (depth : ℕ) (K : List ℕ) (l : Limbs) : Type 0 where
  pub long : length K ≡ 2 ^ depth
  pub below : (k : ℕ) → k < 2 ^ depth → get_or K k 0 < 2 ^ 58
  pub low : IsImageOf depth (wholes (bit_fields 0 20 K)) l.low
  pub middle : IsImageOf depth (wholes (bit_fields 20 20 K)) l.middle
  pub high : IsImageOf depth (wholes (bit_fields 40 20 K)) l.high

-- l has the images of a, b and c, the low, middle and high limb of a polynomial
pub record HasLimbs (depth : ℕ) (a b c : List ℤ) (l : Limbs) : Type 0 where
  pub low : IsImageOf depth a l.low
  pub middle : IsImageOf depth b l.middle
  pub high : IsImageOf depth c l.high
  pub low_small : IsLimb (2 ^ depth) a
  pub middle_small : IsLimb (2 ^ depth) b
  pub high_small : IsLimb (2 ^ depth) c
