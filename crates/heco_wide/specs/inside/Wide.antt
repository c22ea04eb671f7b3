-- Lists of whole numbers that stay small.
use Prim.Native.Nat.{ℕ, ◌<◌, ◌≤◌}
use mathlib.Core.List.{List}
use lib.IntN.{ℤ, pos, nat_abs}
use lib.ListN.{length, get_or}

-- number k, and 0 past the end
abbrev pub int_at : List ℤ → ℕ → ℤ
int_at xs k = get_or xs k (pos 0)

-- each number is from -B to B
abbrev pub FitsAll : ℕ → List ℤ → Type 0
FitsAll B xs = (k : ℕ) → k < length xs → nat_abs (int_at xs k) ≤ B
