-- Material drawn from a seed, part by part in the order of the files. Keys take stream 1, encryptions stream 2.
use Rattle.std.specs.Prelude.{ℕ, ◌+◌, ◌*◌, List}
use Rattle.rand_chacha.specs.ChaCha.{ChaCha}
use Rattle.heco_draw.specs.Words.{ahead, sparse, long_words, errors}
use Rattle.heco_nums.specs.Listed.{listed}
use Rattle.heco_material.specs.declared.words.SwitchRow.{SwitchRow}
use Rattle.heco_material.specs.declared.words.SwitchWords.{SwitchWords}
use Rattle.heco_material.specs.declared.words.EncRow.{EncRow}
use Rattle.heco_material.specs.KeyLists.{KeyLists, key_lists}
use Rattle.heco_material.specs.KeyFormat.{switch_row, switch_words}
use Rattle.heco_material.specs.EncFormat.{enc_row}

-- two words for each number and one for each error: 3 n words
unfoldable pub drawn_row : ChaCha → ℕ → ℕ → SwitchRow
drawn_row g n b = switch_row (long_words g n) (errors (ahead g (2 * n)) n b)

-- 29 rows: 87 n words
unfoldable pub drawn_switch : ChaCha → ℕ → ℕ → SwitchWords
drawn_switch g n b = switch_words (listed 29 (λ i. drawn_row (ahead g (3 * n * i)) n b))

unfoldable pub drawn_switches : ChaCha → ℕ → ℕ → ℕ → List SwitchWords
drawn_switches g n b count = listed count (λ j. drawn_switch (ahead g (87 * n * j)) n b)

unfoldable pub drawn_keys : ChaCha → ℕ → ℕ → ℕ → ℕ → KeyLists
drawn_keys g n h b count =
    key_lists (sparse g n h) (long_words (ahead g h) n) (errors (ahead g (h + 2 * n)) n b) (drawn_switches (ahead g (h + 3 * n)) n b count)

-- h words and two errors: h + 2 n words
unfoldable pub drawn_encryption : ChaCha → ℕ → ℕ → ℕ → EncRow
drawn_encryption g n h b = enc_row (sparse g n h) (errors (ahead g h) n b) (errors (ahead g (h + n)) n b)

unfoldable pub drawn_encryptions : ChaCha → ℕ → ℕ → ℕ → ℕ → List EncRow
drawn_encryptions g n h b count = listed count (λ i. drawn_encryption (ahead g ((h + 2 * n) * i)) n h b)
