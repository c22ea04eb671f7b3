-- Polynomials of whole numbers by three limbs in base 2^19, the limbs by their images, and the parts of a product.
use Prim.Native.Nat.{ℕ, zero, suc, ◌^◌, ◌<◌, ◌≤◌}
use mathlib.Core.List.{List}
use mathlib.Core.Path.{◌≡◌}
use lib.IntN.{ℤ, pos, ◌+ℤ◌, ◌*ℤ◌, nat_abs}
use lib.ListN.{length}
use Rattle.heco_ring.specs.Ring.{at, plus, times}
use Rattle.heco_transform.specs.Images.{ImageFits, SumFits, IsImageOf}
use Rattle.heco_wide.specs.declared.limbs.LimbImages.{LimbImages}
use Rattle.heco_wide.specs.declared.room.Room.{Room}

-- what stands at 1, at 2^19 and at 2^38
pub record Limbs : Type 0 where
  pub low : List ℤ
  pub middle : List ℤ
  pub high : List ℤ

-- the coefficients are at most 2^19 in size
pub record IsLimb (n : ℕ) (a : List ℤ) : Type 0 where
  pub each : (k : ℕ) → k < n → nat_abs (at a k) ≤ 2 ^ 19

-- the three images have 2^depth words
pub record ImagesFit (depth : ℕ) (i : LimbImages) : Type 0 where
  pub low : ImageFits depth i.low
  pub middle : ImageFits depth i.middle
  pub high : ImageFits depth i.high

-- i has the images of the limbs
pub record AreImages (depth : ℕ) (l : Limbs) (i : LimbImages) : Type 0 where
  pub low : IsImageOf depth l.low i.low
  pub middle : IsImageOf depth l.middle i.middle
  pub high : IsImageOf depth l.high i.high
  pub low_small : IsLimb (2 ^ depth) l.low
  pub middle_small : IsLimb (2 ^ depth) l.middle
  pub high_small : IsLimb (2 ^ depth) l.high

-- i has the images of some limbs
pub record HasLimbs (depth : ℕ) (i : LimbImages) : Type 0 where
  pub limbs : Limbs
  pub images : AreImages depth limbs i

-- the limbs, each at its power of 2^19, add up to a
pub record AreLimbsOf (n : ℕ) (a : List ℤ) (l : Limbs) : Type 0 where
  pub each : (k : ℕ) → k < n → at a k ≡ at l.low k +ℤ pos (2 ^ 19) *ℤ (at l.middle k +ℤ pos (2 ^ 19) *ℤ at l.high k)

-- i has the images of limbs of a
pub record HasLimbsOf (depth : ℕ) (a : List ℤ) (i : LimbImages) : Type 0 where
  pub limbs : Limbs
  pub images : AreImages depth limbs i
  pub add_up : AreLimbsOf (2 ^ depth) a limbs

-- what stands at the power j of 2^19, for j below 5, in the product of polynomials of limbs
unfoldable pub limb_part : ℕ → ℕ → Limbs → Limbs → List ℤ
limb_part n zero a b = times n a.low b.low
limb_part n (suc zero) a b = plus n (times n a.low b.middle) (times n a.middle b.low)
limb_part n (suc (suc zero)) a b = plus n (plus n (times n a.low b.high) (times n a.high b.low)) (times n a.middle b.middle)
limb_part n (suc (suc (suc zero))) a b = plus n (times n a.middle b.high) (times n a.high b.middle)
limb_part n (suc (suc (suc (suc j)))) a b = times n a.high b.high

-- room for polynomials of 2^depth coefficients
pub record RoomFits (depth : ℕ) (r : Room) : Type 0 where
  pub sum : SumFits depth r.sum
  pub words : length r.words.items ≡ 2 ^ depth
  pub limb : length r.limb.items ≡ 2 ^ depth
  pub wide : length r.wide.items ≡ 2 ^ depth
