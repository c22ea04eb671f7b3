-- The answers of reading a text of inputs.
use Rattle.std.specs.Prelude.{◌≡◌, ◌≢◌, ◌⊎◌, ℕ, ◌<◌, ◌≤◌, true, List, [], ◌∷◌, Some, None, Result, Err, length, nat_lt}
use Rattle.std.specs.List.{list_all, AllPairs}
use Rattle.heco_nums.specs.declared.shape.Shape.{Shape}
use Rattle.heco_nums.specs.declared.shape.Values.{Values}
use Rattle.heco_texts.specs.Lines.{lines}
use Rattle.heco_texts.specs.Rules.{given_by, first_missing, rows_of, IsFirstBroken, NoneBroken}
use Rattle.heco_texts.specs.declared.given.Given.{Given}
use Rattle.heco_texts.specs.declared.error.InputErr.{InputErr}
use Rattle.heco_texts.specs.declared.error.InputErr.TheVariants.{InputLong, At, InputMissing, Memory}

-- the most bytes that a text of inputs may have
abbrev pub most_bytes : ℕ
most_bytes = 4194304

abbrev pub HaveOwnNames : List Shape → Type 0
HaveOwnNames shapes = AllPairs (λ s r. s.name ≢ r.name) shapes

-- the text is short enough, no line breaks a rule, each shape is given, and these are the rows
pub record IsRead (t : ℕ) (shapes : List Shape) (text : List ℕ) (v : Values) : Type 0 where
  pub short : length text ≤ most_bytes
  pub kept : NoneBroken t shapes (lines text)
  pub all : first_missing (given_by (lines text)) shapes ≡ None
  pub rows : v.rows ≡ rows_of (given_by (lines text)) shapes

-- why lines are refused so, and why rows are; want of memory is free
abbrev pub IsBroken : ℕ → List Shape → List (List ℕ) → InputErr → Type 0
IsBroken t shapes lines (At rule number) = IsFirstBroken t shapes lines rule number
IsBroken t shapes lines Memory = Unit {0}
IsBroken t shapes lines InputLong = ⊥
IsBroken t shapes lines (InputMissing which) = ⊥

abbrev pub IsMissing : List Given → List Shape → InputErr → Type 0
IsMissing given shapes (InputMissing which) = first_missing given shapes ≡ Some which
IsMissing given shapes Memory = Unit {0}
IsMissing given shapes InputLong = ⊥
IsMissing given shapes (At rule number) = ⊥

-- why a text is refused so: its length, the first line that breaks a rule, or else the first shape that no line gave
abbrev pub IsRefused : ℕ → List Shape → List ℕ → InputErr → Type 0
IsRefused t shapes text InputLong = most_bytes < length text
IsRefused t shapes text (At rule number) = (length text ≤ most_bytes) × IsFirstBroken t shapes (lines text) rule number
IsRefused t shapes text (InputMissing which) = (length text ≤ most_bytes) × NoneBroken t shapes (lines text)
    × (first_missing (given_by (lines text)) shapes ≡ Some which)
IsRefused t shapes text Memory = Unit {0}

-- this answer was given, unless memory ran out
abbrev pub Gives : Result Values InputErr → Result Values InputErr → Type 0
Gives result answer = (result ≡ answer) ⊎ (result ≡ Err Memory)

-- a row has the length of its shape, and its values are below t
abbrev pub HaveFit : ℕ → List Shape → List (List ℕ) → Type 0
HaveFit t [] [] = Unit {0}
HaveFit t [] (row ∷ rows) = ⊥
HaveFit t (s ∷ shapes) [] = ⊥
HaveFit t (s ∷ shapes) (row ∷ rows) = (length row ≡ s.len) × (list_all (λ v. nat_lt v t) row ≡ true) × HaveFit t shapes rows
