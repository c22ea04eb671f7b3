-- Ciphertexts as lists of two or three parts, each the list of its coefficients.
use Rattle.std.specs.Prelude.{ℕ, ◌<◌, ◌≡◌, ◌⊎◌, ◌^◌, List, [], length}
use lib.IntN.{ℤ}
use lib.ListN.{get_or}
use mathlib.Core.List.{map}
use Rattle.std.specs.List.{range_with_len}
use Rattle.heco_ring.specs.Ring.{wholes}

-- part i, empty where there is none
unfoldable pub part : List (List ℕ) → ℕ → List ℤ
part c i = wholes (get_or c i [])

-- the parts f 0, .., f (m - 1)
unfoldable pub parts : ℕ → (ℕ → List ℕ) → List (List ℕ)
parts m f = map f (range_with_len 0 m)

-- two or three parts of n places
pub record IsCiphertext (n : ℕ) (c : List (List ℕ)) : Type 0 where
  pub places : (i : ℕ) → i < length c → length (get_or c i []) ≡ n
  pub count : (length c ≡ 2) ⊎ (length c ≡ 3)

-- two parts, with coefficients below q = 2^58
pub record AreTwoParts (c : List (List ℕ)) : Type 0 where
  pub two : length c ≡ 2
  pub below : (i k : ℕ) → get_or (get_or c i []) k 0 < 2 ^ 58
