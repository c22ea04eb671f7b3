-- The lines of a text.
use Rattle.std.specs.Prelude.{ℕ, Bool, false, ◌&&◌, ◌==◌, List, [], ◌∷◌, if◌then◌else◌}

-- the byte stands in front of the first line
abbrev pub in_front : ℕ → List (List ℕ) → List (List ℕ)
in_front c [] = (c ∷ []) ∷ []
in_front c (line ∷ more) = (c ∷ line) ∷ more

abbrev pub begins_with_lf : List ℕ → Bool
begins_with_lf [] = false
begins_with_lf (c ∷ cs) = c == 10

-- the lines of a text, by its first byte, the bytes behind it and their lines
abbrev pub with_first : ℕ → List ℕ → List (List ℕ) → List (List ℕ)
with_first c cs more = if c == 10 then [] ∷ more else if c == 13 && begins_with_lf cs then more else in_front c more

-- LF ends a line, and a CR right before that LF belongs to no line; the end of the text ends a line of at least one byte
abbrev pub lines : List ℕ → List (List ℕ)
lines [] = []
lines (c ∷ cs) = with_first c cs (lines cs)
