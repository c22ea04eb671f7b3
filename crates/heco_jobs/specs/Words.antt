-- The words behind the program's name.
use Rattle.std.specs.Prelude.{ℕ, Bool, true, ◌&&◌, not, List, [], ◌∷◌, String, string_bytes, map, unwrap_or, slice_get}
use Rattle.std.specs.List.{list_any}
use Rattle.std.specs.Str.{bytes_eq}
use Rattle.std.specs.declared.alloc.Global.{Global}

-- the words as bytes
abbrev pub texts : List (String Global) → List (List ℕ)
texts words = map string_bytes words

-- the word of this number, from 0 for the command word
abbrev pub name_of : List (List ℕ) → ℕ → List ℕ
name_of words which = unwrap_or (slice_get words which) []

-- no two of the words are equal
abbrev pub are_distinct : List (List ℕ) → Bool
are_distinct [] = true
are_distinct (w ∷ words) = not (list_any (bytes_eq w) words) && are_distinct words
