-- The image of a polynomial of n = 2^depth coefficients: its values at the n roots of x^n + 1, in the order of the tree.
use Prim.Native.Nat.{ℕ, ◌+◌, ◌/◌, ◌%◌, ◌^◌, ◌<◌}
use mathlib.Core.List.{List, map}
use mathlib.Core.Path.{◌≡◌}
use lib.IntN.{ℤ, pos}
use lib.ListN.{length, get_or}
use Rattle.heco_ring.specs.Remainders.{rem}
use Rattle.heco_transform.specs.Modulus.{modulus, psi}
use Rattle.heco_transform.specs.Tables.{Layers}
use Rattle.heco_transform.specs.Values.{node, value_at}
use Rattle.heco_transform.specs.declared.image.Image.{Image}
use Rattle.heco_transform.specs.declared.image.ImageSum.{ImageSum}

-- v has the values of a modulo the modulus, in words that need not be reduced; the table of roots is that of psi, which
-- depth alone determines. By remainders, so that a type can keep the fact.
pub record IsImage (depth : ℕ) (a : List ℤ) (v : List ℕ) : Type 0 where
  pub each : (t : List ℕ) → Layers psi depth t → (k : ℕ) → k < 2 ^ depth →
      rem modulus (pos (get_or v k 0)) ≡ rem modulus (value_at (2 ^ depth) a (node t (2 ^ depth + k)))

-- an image and a sum of 2^depth words
abbrev pub ImageFits : ℕ → Image → Type 0
ImageFits depth i = length i.words.items ≡ 2 ^ depth

abbrev pub SumFits : ℕ → ImageSum → Type 0
SumFits depth s = length s.words.items ≡ 2 ^ depth

abbrev pub IsImageOf : ℕ → List ℤ → Image → Type 0
IsImageOf depth a i = IsImage depth a i.words.items

abbrev pub IsSumOf : ℕ → List ℤ → ImageSum → Type 0
IsSumOf depth a s = IsImage depth a s.words.items

-- width bits of each number, from bit shift on
unfoldable pub bit_fields : ℕ → ℕ → List ℕ → List ℕ
bit_fields shift width a = map (λ x. x / 2 ^ shift % 2 ^ width) a
