-- How a file with a header and a count is judged: its fields in order, its preset and its count where these stand.
use Rattle.std.specs.Prelude.{◌≡◌, ◌≢◌, ◌<◌, ◌^◌, ℕ, List, [], ◌++◌, Result}
use Rattle.std.specs.Int.{w32, to_be_bytes}
use Rattle.heco_fields.specs.Formats.{Format, BreaksAt, any, header, header_text, ◌>>=◌}
use Rattle.heco_fields.specs.Readings.{reading}
use Rattle.heco_key_files.specs.Judging.{wanted, behind, header_as, body_as, NamesPreset, NamesNoOther}
use Rattle.heco_lists.specs.declared.error.FileErr.{FileErr}
use Rattle.heco_lists.specs.declared.error.FileErr.TheVariants.{Malformed, WrongPreset, Count, Memory}

abbrev pub count_as : List ℕ → ℕ → List ℕ → Result (List ℕ) FileErr
count_as bytes want rest = wanted bytes want (λ found. Count want found) (reading (any w32) rest)

unfoldable pub behind_count : {A : Type 0} → ℕ → Format A → List ℕ → List ℕ → Result A FileErr
behind_count want body bytes rest = behind (count_as bytes want rest) (λ last. body_as body bytes last)

unfoldable pub counted_as : {A : Type 0} → List ℕ → ℕ → ℕ → Format A → List ℕ → Result A FileErr
counted_as magic kept want body bytes = behind (header_as magic kept bytes) (λ rest. behind_count want body bytes rest)

-- the file begins with a whole header of the preset that is kept, and this count
pub record NamesCount (magic : List ℕ) (kept found : ℕ) (bytes : List ℕ) : Type 0 where
  pub rest : List ℕ
  pub parts : bytes ≡ header_text magic kept ++ (to_be_bytes w32 found ++ rest)
  pub fits : found < 2 ^ 32

-- no whole header with another count
abbrev pub CountsNoOther : List ℕ → ℕ → ℕ → List ℕ → Type 0
CountsNoOther magic kept want bytes = (found : ℕ) → NamesCount magic kept found bytes → found ≡ want

unfoldable pub whole_counted : {A : Type 0} → List ℕ → Format A → Format A
whole_counted magic body = do
  preset ← header magic
  count ← any w32
  body

-- WrongPreset where the header is whole and of another preset; Count where the count behind it is another one; and
-- otherwise Malformed by the first broken field
abbrev pub HasCountedCause : {A : Type 0} → List ℕ → ℕ → ℕ → Format A → List ℕ → FileErr → Type 0
HasCountedCause magic kept want body bytes (Malformed at) = BreaksAt (whole_counted magic body) bytes [] at × NamesNoOther magic kept bytes
    × CountsNoOther magic kept want bytes
HasCountedCause magic kept want body bytes (WrongPreset k found) = (k ≡ kept) × (found ≢ kept) × NamesPreset magic found bytes
HasCountedCause magic kept want body bytes (Count w found) = (w ≡ want) × (found ≢ want) × NamesCount magic kept found bytes
HasCountedCause magic kept want body bytes Memory = Unit {0}
