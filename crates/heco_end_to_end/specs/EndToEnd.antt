-- What decrypting the result of a run prints.
use Rattle.std.specs.Prelude.{◌≡◌, ℕ, List, length, map}
use Rattle.heco_nums.specs.declared.preset.Preset.{Preset}
use Rattle.heco_circuit.specs.Circuits.{IsCircuit}
use Rattle.heco_circuit.specs.Needs.{needed_keys}
use Rattle.heco_circuit.specs.Plans.{Plan as Circuit, shape_of}
use Rattle.heco_ciphertext_files.specs.CiphertextFiles.{AreCiphertexts}
use Rattle.heco_key_files.specs.KeyFiles.{EvalLists}
use Rattle.heco_material.specs.KeyLists.{KeyLists, IsKeyMaterial, IsEncMaterial}
use Rattle.heco_material.specs.declared.words.EncRow.{EncRow}
use Rattle.heco_meaning.specs.Meanings.{filled, meaning_of}
use Rattle.heco_products.specs.Decrypting.{output_wire_count, outputs_text, row_text}
use Rattle.heco_products.specs.Encrypting.{encrypted_inputs, encrypted_messages}
use Rattle.heco_products.specs.KeyProducts.{circuit_key}
use Rattle.heco_products.specs.Results.{keys_of}
use Rattle.heco_slots.specs.Rows.{row_of}
use Rattle.heco_texts.specs.Answers.{HaveFit}
use Rattle.heco_texts.specs.Outputs.{output_text}
use Rattle.heco_run_laws.specs.Carried.{IsRowExponent}
use Rattle.heco_run_laws.specs.Results.{results_of}
use Rattle.heco_run_laws.specs.Runs.{Ciphertext}

-- a valid circuit of the preset, and key and encryption material within bounds for it
pub record IsProvided (p : Preset) (c : Circuit) (k : KeyLists) (material : List EncRow) : Type 0 where
  pub preset : p.id ≡ c.preset
  pub valid : IsCircuit c
  pub keys : IsKeyMaterial p.n p.h p.b (needed_keys c) k
  pub words : IsEncMaterial p.n p.h p.b (length c.inputs) material

-- ---- for any messages

-- the keys are made, the messages encrypted, and the circuit run
abbrev pub messages_result : Preset → Circuit → KeyLists → List EncRow → List (List ℕ) → List Ciphertext
messages_result p c k material messages = results_of p (keys_of (circuit_key p c k)) c (encrypted_messages p (circuit_key p c k) material messages)

-- where the messages have these values, and then zeros, in either row, what decrypting the result prints of this row is the text of the circuit's meaning
abbrev pub RowsPrintTheMeaning : Type 0
RowsPrintTheMeaning =
    (p : Preset) (e : ℕ) (c : Circuit) (k : KeyLists) (material : List EncRow) (messages rows : List (List ℕ)) → IsRowExponent p e → IsProvided p c k material
    → length messages ≡ length c.inputs
    → map (row_of p e) messages ≡ map (filled p.slots) rows
    → row_text p e c k.s (messages_result p c k material messages) ≡ output_text (map shape_of c.outputs) (meaning_of c rows)

-- the encrypted messages are so many ciphertexts of two parts, and so is the result: as many as outputs have wires
abbrev pub RunsAreRead : Type 0
RunsAreRead =
    (p : Preset) (c : Circuit) (k : KeyLists) (material : List EncRow) (messages : List (List ℕ)) → IsProvided p c k material
    → length messages ≡ length c.inputs
    → AreCiphertexts p.n (length c.inputs) (encrypted_messages p (circuit_key p c k) material messages)
    × AreCiphertexts p.n (output_wire_count c) (messages_result p c k material messages)

-- ---- for inputs

-- and values that fit the inputs
pub record IsRunnable (p : Preset) (c : Circuit) (k : KeyLists) (material : List EncRow) (rows : List (List ℕ)) : Type 0 where
  pub provided : IsProvided p c k material
  pub fit : HaveFit p.t c.inputs rows

abbrev pub run_result : Preset → Circuit → KeyLists → List EncRow → List (List ℕ) → List Ciphertext
run_result p c k material rows = results_of p (keys_of (circuit_key p c k)) c (encrypted_inputs p (circuit_key p c k) material rows)

-- what decrypting the result prints is the text of the circuit's meaning
abbrev pub PrintsTheMeaning : Preset → Circuit → KeyLists → List EncRow → List (List ℕ) → Type 0
PrintsTheMeaning p c k material rows = outputs_text p c k.s (run_result p c k material rows) ≡ output_text (map shape_of c.outputs) (meaning_of c rows)

-- ---- for whatever key and inputs of two parts are read

abbrev pub ResultsAreCiphertexts : Type 0
ResultsAreCiphertexts =
    (p : Preset) (c : Circuit) (e : EvalLists) (inputs : List Ciphertext) → IsCircuit c → AreCiphertexts p.n (length c.inputs) inputs
    → AreCiphertexts p.n (output_wire_count c) (results_of p (keys_of e) c inputs)
