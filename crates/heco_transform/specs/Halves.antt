-- Polynomials of words below 2^58 by the images of their halves of 29 bits, and sums of their products by small polynomials.
use Prim.Native.Nat.{ℕ, ◌*◌, ◌^◌, ◌<◌, ◌≤◌}
use mathlib.Core.List.{List}
use mathlib.Core.Path.{◌≡◌}
use lib.IntN.{ℤ, pos, ◌+ℤ◌, ◌*ℤ◌, nat_abs}
use lib.ListN.{length, get_or}
use Rattle.heco_ring.specs.Ring.{at, wholes}
use Rattle.heco_transform.specs.Images.{ImageFits, SumFits, IsImageOf, IsSumOf, bit_fields}
use Rattle.heco_transform.specs.declared.half.Halves.{Halves}
use Rattle.heco_transform.specs.declared.half.HalfSums.{HalfSums}

-- both images, and both sums, have 2^depth words
pub record HalvesFit (depth : ℕ) (h : Halves) : Type 0 where
  pub low : ImageFits depth h.low
  pub high : ImageFits depth h.high

pub record SumsFit (depth : ℕ) (s : HalfSums) : Type 0 where
  pub low : SumFits depth s.low
  pub high : SumFits depth s.high

-- h has the images of the halves of K
pub record AreHalves (depth : ℕ) (K : List ℕ) (h : Halves) : Type 0 where
  pub long : length K ≡ 2 ^ depth
  pub below : (k : ℕ) → k < 2 ^ depth → get_or K k 0 < 2 ^ 58
  pub low : IsImageOf depth (wholes (bit_fields 0 29 K)) h.low
  pub high : IsImageOf depth (wholes (bit_fields 29 29 K)) h.high

-- the coefficients are from -3 to 3
pub record IsSmall (n : ℕ) (d : List ℤ) : Type 0 where
  pub each : (k : ℕ) → k < n → nat_abs (at d k) ≤ 3

-- s has the images of a low and a high part of S
pub record AreSums (depth : ℕ) (S : List ℤ) (s : HalfSums) : Type 0 where
  pub low : List ℤ
  pub high : List ℤ
  pub low_image : IsSumOf depth low s.low
  pub high_image : IsSumOf depth high s.high
  pub whole : (k : ℕ) → k < 2 ^ depth → at S k ≡ at low k +ℤ pos (2 ^ 29) *ℤ at high k
  pub low_small : (k : ℕ) → k < 2 ^ depth → nat_abs (at low k) ≤ s.low.count * (3 * 2 ^ 39)
  pub high_small : (k : ℕ) → k < 2 ^ depth → nat_abs (at high k) ≤ s.low.count * (3 * 2 ^ 39)
