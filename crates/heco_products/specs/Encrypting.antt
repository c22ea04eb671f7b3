-- The file of a circuit's encrypted inputs.
use Rattle.std.specs.Prelude.{ℕ, List, [], ◌∷◌, map}
use Rattle.heco_ciphertext_files.specs.CiphertextFiles.{file_text, magic_of}
use Rattle.heco_ciphertext_files.specs.declared.kind.FileKind.TheVariants.{Cts}
use Rattle.heco_key_files.specs.KeyFiles.{EvalLists}
use Rattle.heco_material.specs.declared.words.EncRow.{EncRow}
use Rattle.heco_nums.specs.declared.preset.Preset.{Preset}
use Rattle.heco_meaning.specs.Meanings.{filled}
use Rattle.heco_run_laws.specs.Carried.{two_row_messages}
use Rattle.heco_run_laws.specs.Messages.{input_message}
use Rattle.heco_scheme.specs.Encryption.{encrypted}
use Rattle.heco_slots.specs.Rows.{encoded_two}

-- ---- of any messages

-- the message encrypted by a row of the material from the public key
unfoldable pub encrypted_message : Preset → EvalLists → EncRow → List ℕ → List (List ℕ)
encrypted_message p key row m = encrypted p key.p0 key.p1 row.u row.e1 row.e2 m

-- one for each message in order, by the rows of the material
abbrev pub encrypted_messages : Preset → EvalLists → List EncRow → List (List ℕ) → List (List (List ℕ))
encrypted_messages p key [] messages = []
encrypted_messages p key (row ∷ rows) [] = []
encrypted_messages p key (row ∷ rows) (m ∷ messages) = encrypted_message p key row m ∷ encrypted_messages p key rows messages

unfoldable pub messages_file : Preset → EvalLists → List EncRow → List (List ℕ) → List ℕ
messages_file p key rows messages = file_text (magic_of Cts) p.id (encrypted_messages p key rows messages)

-- ---- of inputs: the message is the plaintext whose slots are the values, and then zeros

abbrev pub encrypted_input : Preset → EvalLists → EncRow → List ℕ → List (List ℕ)
encrypted_input p key row values = encrypted_message p key row (input_message p values)

abbrev pub encrypted_inputs : Preset → EvalLists → List EncRow → List (List ℕ) → List (List (List ℕ))
encrypted_inputs p key rows inputs = encrypted_messages p key rows (map (input_message p) inputs)

abbrev pub inputs_file : Preset → EvalLists → List EncRow → List (List ℕ) → List ℕ
inputs_file p key rows inputs = messages_file p key rows (map (input_message p) inputs)

-- ---- of inputs in two rows: the message is the plaintext whose slots are the values of the one text in the first row and of the
-- other in the second, and then zeros

abbrev pub pair_message : Preset → List ℕ → List ℕ → List ℕ
pair_message p first second = encoded_two p (filled p.slots first) (filled p.slots second)

abbrev pub encrypted_pairs : Preset → EvalLists → List EncRow → List (List ℕ) → List (List ℕ) → List (List (List ℕ))
encrypted_pairs p key rows first second = encrypted_messages p key rows (two_row_messages p first second)

abbrev pub pairs_file : Preset → EvalLists → List EncRow → List (List ℕ) → List (List ℕ) → List ℕ
pairs_file p key rows first second = messages_file p key rows (two_row_messages p first second)
