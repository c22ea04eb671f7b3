-- The bounds of what keys and encryptions are made from. The scheme draws its secrets and errors small;
-- these very bounds are our own.
use Rattle.std.specs.Prelude.{◌≡◌, ℕ, ◌<◌, ◌≤◌, ◌^◌, ◌==◌, Bool, not, List, length, All, count_by, ℤ}
use Rattle.std.specs.Int.RustNames.{unsigned_abs}

abbrev pub is_used : ℤ → Bool
is_used z = not (unsigned_abs z == 0)

-- n places of -1, 0 and 1, at most h of them not 0
pub record IsSparse (n h : ℕ) (s : List ℤ) : Type 0 where
  pub long : length s ≡ n
  pub small : All (λ z. unsigned_abs z ≤ 1) s
  pub few : count_by is_used s ≤ h

-- n errors from -b to b
pub record AreErrors (n b : ℕ) (e : List ℤ) : Type 0 where
  pub long : length e ≡ n
  pub small : All (λ z. unsigned_abs z ≤ b) e

-- n numbers below q = 2^58
pub record AreWords (n : ℕ) (a : List ℕ) : Type 0 where
  pub long : length a ≡ n
  pub below : All (λ x. x < 2 ^ 58) a
