-- Lists of numbers that rise, each number above the one before it.
use Rattle.std.specs.Prelude.{ℕ, Bool, true, IsTrue, ◌&&◌, List, [], ◌∷◌, nat_lt}

abbrev pub rises_from : ℕ → List ℕ → Bool
rises_from a [] = true
rises_from a (b ∷ rest) = nat_lt a b && rises_from b rest

abbrev pub is_rising : List ℕ → Bool
is_rising [] = true
is_rising (a ∷ rest) = rises_from a rest

abbrev pub IsRising : List ℕ → Type 0
IsRising turns = IsTrue (is_rising turns)
