-- The text of outputs: for each its name, ` =`, each value in decimal behind a space, and LF.
use Rattle.std.specs.Prelude.{ℕ, List, [], ◌∷◌, ◌++◌, codes, decimal}
use Rattle.std.specs.List.{flat_map}
use Rattle.heco_nums.specs.declared.shape.Shape.{Shape}

abbrev pub value_words : ℕ → List ℕ
value_words v = codes " " ++ decimal v

abbrev pub output_line : List ℕ → List ℕ → List ℕ
output_line name row = name ++ (codes " =" ++ (flat_map value_words row ++ codes "\n"))

abbrev pub output_text : List Shape → List (List ℕ) → List ℕ
output_text [] rows = []
output_text (s ∷ shapes) [] = []
output_text (s ∷ shapes) (row ∷ rows) = output_line s.name row ++ output_text shapes rows
