-- How a file with a header is judged: its fields in order, and its preset where that field stands.
use Rattle.std.specs.Prelude.{◌≡◌, ◌≢◌, ◌≤◌, ℕ, ◌-◌, ◌==◌, List, [], ◌++◌, length, Result, Ok, Err, if◌then◌else◌}
use Rattle.heco_fields.specs.Formats.{Format, BreaksAt, header, header_text, ◌>>=◌}
use Rattle.heco_fields.specs.Readings.{Reading, reading, judged}
use Rattle.heco_lists.specs.declared.error.FileErr.{FileErr}
use Rattle.heco_lists.specs.declared.error.FileErr.TheVariants.{Malformed, WrongPreset, Count, Memory}

-- ---- the answer, as a function of the bytes

abbrev pub placed : {A : Type 0} → Result A ℕ → Result A FileErr
placed (Ok x) = Ok x
placed (Err at) = Err (Malformed at)

-- the bytes behind a number, where it is the wanted one
unfoldable pub wanted : List ℕ → ℕ → (ℕ → FileErr) → Reading ℕ → Result (List ℕ) FileErr
wanted bytes want refuse (Err left) = Err (Malformed (length bytes - left))
wanted bytes want refuse (Ok (found, rest)) = if found == want then Ok rest else Err (refuse found)

abbrev pub behind : {A : Type 0} → Result (List ℕ) FileErr → (List ℕ → Result A FileErr) → Result A FileErr
behind (Ok rest) next = next rest
behind (Err e) next = Err e

abbrev pub header_as : List ℕ → ℕ → List ℕ → Result (List ℕ) FileErr
header_as magic kept bytes = wanted bytes kept (λ found. WrongPreset kept found) (reading (header magic) bytes)

-- the last part of a file: what is left of its bytes
unfoldable pub body_as : {A : Type 0} → Format A → List ℕ → List ℕ → Result A FileErr
body_as body bytes rest = placed (judged bytes [] (reading body rest))

unfoldable pub file_as : {A : Type 0} → List ℕ → ℕ → Format A → List ℕ → Result A FileErr
file_as magic kept body bytes = behind (header_as magic kept bytes) (λ rest. body_as body bytes rest)

-- what was returned, seen by view, is this answer, unless memory ran out
abbrev pub Answers : {X Y : Type 0} → (X → Y) → Result X FileErr → Result Y FileErr → Type 0
Answers view (Ok x) answer = answer ≡ Ok (view x)
Answers view (Err Memory) answer = Unit {0}
Answers view (Err (Malformed at)) answer = answer ≡ Err (Malformed at)
Answers view (Err (WrongPreset kept found)) answer = answer ≡ Err (WrongPreset kept found)
Answers view (Err (Count want found)) answer = answer ≡ Err (Count want found)

-- ---- the same as relations

-- the file begins with a whole header, of this preset
pub record NamesPreset (magic : List ℕ) (found : ℕ) (bytes : List ℕ) : Type 0 where
  pub rest : List ℕ
  pub parts : bytes ≡ header_text magic found ++ rest
  pub low : 1 ≤ found
  pub high : found ≤ 5

-- no whole header of another preset
abbrev pub NamesNoOther : List ℕ → ℕ → List ℕ → Type 0
NamesNoOther magic kept bytes = (found : ℕ) → NamesPreset magic found bytes → found ≡ kept

unfoldable pub whole : {A : Type 0} → List ℕ → Format A → Format A
whole magic body = do
  preset ← header magic
  body

-- Malformed by the first broken field, and WrongPreset where the header is whole and of another preset
abbrev pub HasCause : {A : Type 0} → List ℕ → ℕ → Format A → List ℕ → FileErr → Type 0
HasCause magic kept body bytes (Malformed at) = BreaksAt (whole magic body) bytes [] at × NamesNoOther magic kept bytes
HasCause magic kept body bytes (WrongPreset k found) = (k ≡ kept) × (found ≢ kept) × NamesPreset magic found bytes
HasCause magic kept body bytes (Count want found) = ⊥
HasCause magic kept body bytes Memory = Unit {0}
