-- A piece that is written part by part.
use Rattle.std.proofs.Common.{◌≡◌, ℕ, List, ◌++◌, Option, Some, None}

-- all of the piece but the rest was taken, where what is held is known
abbrev pub UpTo : Option (List ℕ) → Option (List ℕ) → List ℕ → List ℕ → Type 0
UpTo None new piece rest = Unit {0}
UpTo (Some old) None piece rest = ⊥
UpTo (Some old) (Some new) piece rest = (front : List ℕ) × ((new ≡ old ++ front) × (piece ≡ front ++ rest))
