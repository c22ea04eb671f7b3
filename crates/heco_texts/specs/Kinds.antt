-- What a line says, as a function of its bytes.
use Rattle.std.specs.Prelude.{ℕ, Bool, true, ◌&&◌, ◌||◌, ◌==◌, List, [], ◌∷◌, Option, Some, None, if◌then◌else◌}
use Rattle.heco_nums.specs.Words.{is_word}
use Rattle.heco_texts.specs.Forms.{is_blank}
use Rattle.heco_texts.specs.Numbers.{numbers_of}

pub data LineKind : Type 0 where
  Idle : LineKind
  Assigned : (name : List ℕ) (numbers : List (List ℕ)) → LineKind
  Formless : LineKind

abbrev pub without_blanks : List ℕ → List ℕ
without_blanks [] = []
without_blanks (c ∷ cs) = if is_blank c then without_blanks cs else c ∷ cs

abbrev pub ends_name : ℕ → Bool
ends_name c = is_blank c || c == 61

-- the bytes before the first blank or `=`, and those from there on
abbrev pub name_front : List ℕ → List ℕ
name_front [] = []
name_front (c ∷ cs) = if ends_name c then [] else c ∷ name_front cs

abbrev pub name_back : List ℕ → List ℕ
name_back [] = []
name_back (c ∷ cs) = if ends_name c then c ∷ cs else name_back cs

abbrev pub assigned : List ℕ → Option (List (List ℕ)) → LineKind
assigned name None = Formless
assigned name (Some numbers) = Assigned name numbers

-- by the name and the bytes from the next that is no blank on
abbrev pub behind_name : List ℕ → List ℕ → LineKind
behind_name name [] = Formless
behind_name name (c ∷ cs) = if c == 61 && is_word name then assigned name (numbers_of cs) else Formless

abbrev pub says_nothing : List ℕ → Bool
says_nothing [] = true
says_nothing (c ∷ cs) = c == 35

-- what a line without blanks at its front says
abbrev pub kind_of_bare : List ℕ → LineKind
kind_of_bare bare = if says_nothing bare then Idle else behind_name (name_front bare) (without_blanks (name_back bare))

unfoldable pub kind_of : List ℕ → LineKind
kind_of line = kind_of_bare (without_blanks line)
