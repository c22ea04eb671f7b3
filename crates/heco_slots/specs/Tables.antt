-- What a table of powers holds.
use Rattle.std.specs.Prelude.{ℕ, ◌<◌, ◌≡◌, ◌%◌, ◌^◌, List, length}
use lib.ListN.{get_or}

-- n numbers: entry i is x^i modulo m
pub record Powers (x m n : ℕ) (xs : List ℕ) : Type 0 where
  pub long : length xs ≡ n
  pub each : (i : ℕ) → i < n → get_or xs i 0 ≡ x ^ i % m
