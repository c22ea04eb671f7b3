-- A third part that may be missing.
use Rattle.std.specs.Prelude.{ℕ, Option, Some, None, List, [], ◌∷◌, replicate}

-- the list of two parts, or of three
abbrev pub two_or_three : List ℕ → List ℕ → Option (List ℕ) → List (List ℕ)
two_or_three a b None = a ∷ b ∷ []
two_or_three a b (Some c) = a ∷ b ∷ c ∷ []

-- a third part, or n zeros where there is none
abbrev pub third_or : ℕ → Option (List ℕ) → List ℕ
third_or n None = replicate n 0
third_or n (Some c) = c

-- a third part, empty where there is none
abbrev pub third_part : Option (List ℕ) → List ℕ
third_part None = []
third_part (Some c) = c
