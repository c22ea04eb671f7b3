-- The file of key material: no header; the secret, the words and the errors of the public key, and for each switch
-- key 29 times words and errors. Each byte and each word is a field.
use Rattle.std.specs.Prelude.{ℕ, ◌+◌, ◌*◌, List, ◌++◌, ℤ}
use Rattle.std.specs.List.{flat_map}
use Rattle.heco_fields.specs.Formats.{Format, Value, many, ◌>>=◌}
use Rattle.heco_nums.specs.Runs.{stays}
use Rattle.heco_lists.specs.ListFormat.{sparse, words, errors, bytes_text, words_text}
use Rattle.heco_material.specs.declared.words.SwitchRow.{SwitchRow}
use Rattle.heco_material.specs.declared.words.SwitchWords.{SwitchWords}
use Rattle.heco_material.specs.KeyLists.{KeyLists, key_lists}

abbrev pub switch_row : List ℕ → List ℤ → SwitchRow
switch_row a e = record { a = a; e = e }

unfoldable pub row : ℕ → ℕ → ℕ → Format SwitchRow
row n b s = do
  a ← words n
  e ← errors n b
  Value (switch_row a e)

abbrev pub switch_words : List SwitchRow → SwitchWords
switch_words rows = record { rows = rows }

unfoldable pub switch : ℕ → ℕ → ℕ → Format SwitchWords
switch n b s = do
  rows ← many (row n b) stays 29 0
  Value (switch_words rows)

unfoldable pub switches : ℕ → ℕ → ℕ → Format (List SwitchWords)
switches n b count = many (switch n b) stays count 0

unfoldable pub keys : ℕ → ℕ → ℕ → ℕ → Format KeyLists
keys n h b count = do
  s ← sparse n h
  a ← words n
  e ← errors n b
  switch ← switches n b count
  Value (key_lists s a e switch)

-- ---- the same as text

abbrev pub row_text : SwitchRow → List ℕ
row_text r = words_text r.a ++ bytes_text r.e

unfoldable pub switch_text : SwitchWords → List ℕ
switch_text w = flat_map row_text w.rows

unfoldable pub switches_text : List SwitchWords → List ℕ
switches_text ws = flat_map switch_text ws

abbrev pub keys_text : KeyLists → List ℕ
keys_text k = bytes_text k.s ++ (words_text k.a ++ (bytes_text k.e ++ switches_text k.switch))

-- 10 bytes for each place, and 29 times 9 for each place of each switch key
abbrev pub keys_length : ℕ → ℕ → ℕ
keys_length n count = 10 * n + 261 * n * count
