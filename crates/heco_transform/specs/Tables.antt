-- The tables of the transform: entry 2^l + i is entry i times the power 2^(9 - l) of x, modulo the modulus.
use Prim.Native.Nat.{ℕ, ◌+◌, ◌-◌, ◌*◌, ◌%◌, ◌^◌, ◌<◌}
use mathlib.Core.List.{List}
use mathlib.Core.Path.{◌≡◌}
use lib.ListN.{length, get_or}
use Rattle.heco_transform.specs.Modulus.{modulus}

-- the list of the first 2^d entries
pub record Layers (x d : ℕ) (t : List ℕ) : Type 0 where
  pub long : length t ≡ 2 ^ d
  pub first : get_or t 0 0 ≡ 1
  pub layer : (l i : ℕ) → l < d → i < 2 ^ l → get_or t (2 ^ l + i) 0 ≡ get_or t i 0 * (x ^ 2 ^ (9 - l) % modulus) % modulus

-- the list, and after it each entry times r
pub record Doubled (r : ℕ) (old new : List ℕ) : Type 0 where
  pub long : length new ≡ length old + length old
  pub front : (k : ℕ) → k < length old → get_or new k 0 ≡ get_or old k 0
  pub back : (k : ℕ) → k < length old → get_or new (length old + k) 0 ≡ get_or old k 0 * r % modulus
