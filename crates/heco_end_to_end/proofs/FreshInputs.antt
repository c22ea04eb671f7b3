-- Messages that are encrypted by material within bounds are fresh, and inputs have their values in the first row.
use Rattle.std.proofs.Common.{◌≡◌, ◌∙◌, ℕ, List, [], ◌∷◌, length, map, refl, ap₂, arith}
use Rattle.std.specs.List.{AllZip}
use Rattle.std.specs.Prelude.{All}
use Rattle.std.proofs.lemmas.List.Elements.{All-head, All-tail}
use lib.IntN.{ℤ}
use Rattle.heco_nums.specs.declared.preset.Preset.{Preset}
use Rattle.heco_key_files.specs.KeyFiles.{EvalLists}
use Rattle.heco_material.specs.KeyLists.{IsEncRow}
use Rattle.heco_material.specs.declared.words.EncRow.{EncRow}
use Rattle.heco_meaning.specs.Meanings.{filled}
use Rattle.heco_products.specs.Encrypting.{encrypted_message, encrypted_messages}
use Rattle.heco_nums.specs.MaterialBounds.{IsSparse}
use Rattle.heco_scheme.specs.Keys.{IsPublicKey}
use Rattle.heco_slots.specs.Rows.{first_row, row_of}
use Rattle.heco_slots.proofs.PresetSlots.{decoded_encoded}
use Rattle.heco_slots.proofs.SlotsInRow.{first_is_decoded}
use Rattle.heco_run_laws.specs.Carried.{FitsRow, IsFreshFor}
use Rattle.heco_run_laws.specs.Messages.{input_message}
use Rattle.heco_run_laws.proofs.DecryptedRows.{encryptions_fresh}
use Rattle.heco_run_laws.proofs.RowsOfMessages.{length-filled, filled_below}

module _ (p : Preset) (s : List ℤ) (e : EvalLists) (sparse : IsSparse p.n p.h s) (public : IsPublicKey p.n p.b s e.p0 e.p1) where
  message_fresh : (words : EncRow) (m : List ℕ) → IsEncRow p.n p.h p.b words → IsFreshFor p s m (encrypted_message p e words m)
  unfolding encrypted_message
  message_fresh words m within = encryptions_fresh p s e.p0 e.p1 words.u words.e1 words.e2 m sparse public within.secret within.first within.second

  pub messages_fresh : (material : List EncRow) (messages : List (List ℕ)) → length material ≡ length messages → All (IsEncRow p.n p.h p.b) material → AllZip (IsFreshFor p s) messages (encrypted_messages p e material messages)
  messages_fresh [] [] many within = tt
  messages_fresh [] (m ∷ messages) many within = absurd (omega arith)
  messages_fresh (w ∷ material) [] many within = absurd (omega arith)
  messages_fresh (w ∷ material) (m ∷ messages) many within = (
    message_fresh w m (All-head (IsEncRow p.n p.h p.b) w material within),
    messages_fresh material messages (omega arith) (All-tail (IsEncRow p.n p.h p.b) w material within),
  )

module _ (p : Preset) where
  input_row : (v : List ℕ) → FitsRow p v → row_of p first_row (input_message p v) ≡ filled p.slots v
  input_row v fit = first_is_decoded p (input_message p v) ∙ decoded_encoded p (filled p.slots v) (length-filled p v fit) (filled_below p v fit)

  pub input_rows : (rows : List (List ℕ)) → All (FitsRow p) rows → map (row_of p first_row) (map (input_message p) rows) ≡ map (filled p.slots) rows
  input_rows [] fit = refl
  input_rows (v ∷ rows) fit = ap₂ (λ x xs. x ∷ xs) (input_row v (All-head (FitsRow p) v rows fit)) (input_rows rows (All-tail (FitsRow p) v rows fit))
