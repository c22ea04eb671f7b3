-- The file of encryption material: no header; for each input its secret and its two errors, a byte for each place.
use Rattle.std.specs.Prelude.{ℕ, ◌*◌, List, ◌++◌, ℤ}
use Rattle.std.specs.List.{flat_map}
use Rattle.heco_fields.specs.Formats.{Format, Value, many, ◌>>=◌}
use Rattle.heco_material.specs.declared.words.EncRow.{EncRow}
use Rattle.heco_lists.specs.ListFormat.{sparse, errors, bytes_text}
use Rattle.heco_nums.specs.Runs.{stays}

abbrev pub enc_row : List ℤ → List ℤ → List ℤ → EncRow
enc_row u e1 e2 = record { u = u; e1 = e1; e2 = e2 }

unfoldable pub encryption : ℕ → ℕ → ℕ → ℕ → Format EncRow
encryption n h b s = do
  u ← sparse n h
  e1 ← errors n b
  e2 ← errors n b
  Value (enc_row u e1 e2)

unfoldable pub encryptions : ℕ → ℕ → ℕ → ℕ → Format (List EncRow)
encryptions n h b count = many (encryption n h b) stays count 0

abbrev pub encryption_text : EncRow → List ℕ
encryption_text r = bytes_text r.u ++ (bytes_text r.e1 ++ bytes_text r.e2)

unfoldable pub encryptions_text : List EncRow → List ℕ
encryptions_text rows = flat_map encryption_text rows

-- 3 bytes for each place of each input
abbrev pub encryptions_length : ℕ → ℕ → ℕ
encryptions_length n count = 3 * n * count
