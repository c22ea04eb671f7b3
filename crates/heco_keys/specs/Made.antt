-- The keys that are made from key material.
use Rattle.std.specs.Prelude.{ℕ, ◌-◌, Bool, List, [], Option, Some, None, ◌==◌, if◌then◌else◌, ℤ, length}
use Rattle.heco_nums.specs.Listed.{listed}
use lib.ListN.{get_or}
use Rattle.heco_scheme.specs.Keys.{switch_part, square, turned_secret}
use Rattle.heco_material.specs.declared.words.SwitchRow.{SwitchRow}
use Rattle.heco_material.specs.declared.words.SwitchWords.{SwitchWords}

-- what a switch key switches from: the square of the secret to relinearise, or the turned secret
unfoldable pub source_of : ℕ → List ℤ → Option ℕ → List ℤ
source_of n s None = square n s
source_of n s (Some r) = turned_secret n s r

-- what switch key j is for: relinearisation first, and then the turns in order
unfoldable pub purpose : Bool → List ℕ → ℕ → Option ℕ
purpose relin turns j = if relin then if j == 0 then None else Some (get_or turns (j - 1) 0) else Some (get_or turns j 0)

abbrev pub no_row : SwitchRow
no_row = record { a = []; e = [] }

abbrev pub no_rows : SwitchWords
no_rows = record { rows = [] }

-- pair i from row i of the words
abbrev pub pair_of : ℕ → List ℤ → List ℤ → ℕ → SwitchRow → List ℕ × List ℕ
pair_of n s s' i r = (switch_part n s s' i r.a r.e, r.a)

-- 29 pairs from 29 rows of words
unfoldable pub switch_rows : ℕ → List ℤ → List ℤ → List SwitchRow → List (List ℕ × List ℕ)
switch_rows n s s' rows = listed 29 (λ i. pair_of n s s' i (get_or rows i no_row))

-- the rows of each switch key, for relinearisation, or not, and for these turns
unfoldable pub all_rows : ℕ → List ℤ → Bool → List ℕ → List SwitchWords → List (List (List ℕ × List ℕ))
all_rows n s relin turns switch = listed (length switch) (λ j. switch_rows n s (source_of n s (purpose relin turns j)) (get_or switch j no_rows).rows)
