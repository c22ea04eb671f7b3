-- Places: one more than the line ends before, and one more than the bytes since the last of them.
use Rattle.std.specs.Prelude.{ℕ, List, [], ◌∷◌, ◌+◌, ◌==◌, if◌then◌else◌, take, count_by}
use Rattle.heco_lex.specs.declared.place.Place.{Place}

-- how many bytes follow the last line end, where n stand before these
abbrev pub since_line_end : ℕ → List ℕ → ℕ
since_line_end n [] = n
since_line_end n (c ∷ cs) = if c == 10 then since_line_end 0 cs else since_line_end (n + 1) cs

abbrev pub moved : List ℕ → Place
moved before = record { line = 1 + count_by (λ c. c == 10) before; col = 1 + since_line_end 0 before }

abbrev pub place_in : List ℕ → ℕ → Place
place_in text offset = moved (take offset text)
