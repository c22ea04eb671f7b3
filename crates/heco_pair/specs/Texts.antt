-- What `pair` prints of two texts.
use Rattle.std.specs.Prelude.{ℕ, List, ◌++◌, codes}

-- the one, the line of two dashes, and the other
abbrev pub both_texts : List ℕ → List ℕ → List ℕ
both_texts first second = first ++ (codes "--\n" ++ second)
