-- What the ciphertexts of a circuit's result decrypt to, and the text of its outputs.
use Rattle.std.specs.Prelude.{ℕ, Bool, true, false, List, [], ◌∷◌, map, ℤ}
use Rattle.std.specs.List.{count_by, range_with_len}
use Rattle.heco_circuit.specs.Plans.{Plan as Circuit, shape_of}
use Rattle.heco_meaning.specs.Meanings.{output_values}
use Rattle.heco_nums.specs.declared.preset.Preset.{Preset}
use Rattle.heco_run_laws.specs.Results.{is_output_wire, wire_count}
use Rattle.heco_scheme.specs.Encryption.{decrypted}
use Rattle.heco_slots.specs.Rows.{first_row, row_of}
use Rattle.heco_texts.specs.Outputs.{output_text}

-- ---- the wires of outputs

-- for each wire whether an output has it
unfoldable pub output_wires : Circuit → List Bool
output_wires c = map (is_output_wire c.outputs) (range_with_len 0 (wire_count c))

-- how many different wires outputs have: a result has so many ciphertexts
unfoldable pub output_wire_count : Circuit → ℕ
output_wire_count c = count_by (λ b. b) (output_wires c)

-- ---- the slots of these wires, in one row

-- the slots in the row e of the plaintext that the ciphertext decrypts to
unfoldable pub decrypted_slots : Preset → ℕ → List ℤ → List (List ℕ) → List ℕ
decrypted_slots p e s c = row_of p e (decrypted p s c)

-- an output's wire has the slots of the next ciphertext, another wire none
abbrev pub next_slots : Preset → ℕ → List ℤ → Bool → List (List (List ℕ)) → List ℕ
next_slots p e s false cs = []
next_slots p e s true [] = []
next_slots p e s true (c ∷ cs) = decrypted_slots p e s c

abbrev pub behind_next : {A : Type 0} → Bool → List A → List A
behind_next false cs = cs
behind_next true [] = []
behind_next true (c ∷ cs) = cs

-- for each wire its slots: the outputs' wires take the ciphertexts in order
abbrev pub decrypted_wires : Preset → ℕ → List ℤ → List Bool → List (List (List ℕ)) → List (List ℕ)
decrypted_wires p e s [] cs = []
decrypted_wires p e s (wire ∷ wires) cs = next_slots p e s wire cs ∷ decrypted_wires p e s wires (behind_next wire cs)

-- ---- the text

-- each output with its elements: its numbers, and the slots of its wires in the row e
unfoldable pub row_text : Preset → ℕ → Circuit → List ℤ → List (List (List ℕ)) → List ℕ
row_text p e c s cs = output_text (map shape_of c.outputs) (map (output_values (decrypted_wires p e s (output_wires c) cs)) c.outputs)

-- in the first row
abbrev pub outputs_text : Preset → Circuit → List ℤ → List (List (List ℕ)) → List ℕ
outputs_text p c s cs = row_text p first_row c s cs
