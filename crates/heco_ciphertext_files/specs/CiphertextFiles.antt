-- The files of ciphertexts, behind their headers.
use Rattle.std.specs.Prelude.{◌≡◌, ℕ, List, [], ◌∷◌, ◌++◌, length, All, codes}
use Rattle.std.specs.List.{flat_map}
use Rattle.std.specs.Int.{w32, to_be_bytes}
use Rattle.heco_fields.specs.Formats.{Format, Value, many, header_text, ◌>>=◌}
use Rattle.heco_nums.specs.Runs.{stays}
use Rattle.heco_nums.specs.MaterialBounds.{AreWords}
use Rattle.heco_lists.specs.ListFormat.{words, words_text}
use Rattle.heco_ciphertext_files.specs.declared.kind.FileKind.{FileKind}
use Rattle.heco_ciphertext_files.specs.declared.kind.FileKind.TheVariants.{Cts, Res}

-- encrypted inputs, or a result
abbrev pub magic_of : FileKind → List ℕ
magic_of Cts = codes "HCTS"
magic_of Res = codes "HRES"

-- two parts of n words each
unfoldable pub ciphertext : ℕ → ℕ → Format (List (List ℕ))
ciphertext n s = do
  first ← words n
  second ← words n
  Value (first ∷ second ∷ [])

unfoldable pub ciphertexts : ℕ → ℕ → Format (List (List (List ℕ)))
ciphertexts n count = many (ciphertext n) stays count 0

unfoldable pub ciphertext_text : List (List ℕ) → List ℕ
ciphertext_text c = flat_map words_text c

unfoldable pub ciphertexts_text : List (List (List ℕ)) → List ℕ
ciphertexts_text cs = flat_map ciphertext_text cs

unfoldable pub file_text : List ℕ → ℕ → List (List (List ℕ)) → List ℕ
file_text magic id cs = header_text magic id ++ (to_be_bytes w32 (length cs) ++ ciphertexts_text cs)

pub record IsTwoParts (n : ℕ) (c : List (List ℕ)) : Type 0 where
  pub two : length c ≡ 2
  pub parts : All (AreWords n) c

-- so many ciphertexts of two parts
pub record AreCiphertexts (n number : ℕ) (cs : List (List (List ℕ))) : Type 0 where
  pub count : length cs ≡ number
  pub each : All (IsTwoParts n) cs
