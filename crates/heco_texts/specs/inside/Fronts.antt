-- The front of a text, as the code finds it.
use Rattle.std.specs.Prelude.{ℕ, ◌==◌, List, [], ◌∷◌, if◌then◌else◌}
use Rattle.heco_texts.specs.Forms.{is_digit}

-- the digits before the first byte that is none, and the bytes from there on
abbrev pub digit_front : List ℕ → List ℕ
digit_front [] = []
digit_front (c ∷ cs) = if is_digit c then c ∷ digit_front cs else []

abbrev pub digit_back : List ℕ → List ℕ
digit_back [] = []
digit_back (c ∷ cs) = if is_digit c then digit_back cs else c ∷ cs

-- the bytes without a CR at their end
abbrev pub without_cr : List ℕ → List ℕ
without_cr [] = []
without_cr (c ∷ []) = if c == 13 then [] else c ∷ []
without_cr (c ∷ d ∷ cs) = c ∷ without_cr (d ∷ cs)
