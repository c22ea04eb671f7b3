-- What `measure` has printed where it is done, and that on the files of one chain, of material within bounds, no noise is above its bound.
use Rattle.std.specs.Prelude.{◌≡◌, ◌≤◌, ◌++◌, ℕ, ℤ, List, length, map, Some, All}
use Rattle.heco_ciphertext_files.specs.declared.kind.FileKind.TheVariants.{Cts}
use Rattle.heco_circuit.specs.CircuitFile.{Spells}
use Rattle.heco_circuit.specs.CircuitFormat.{circuit_text}
use Rattle.heco_circuit.specs.Plans.{Plan as Circuit}
use Rattle.heco_end_to_end.specs.EndToEnd.{IsProvided}
use Rattle.heco_key_files.specs.KeyFiles.{EvalLists}
use Rattle.heco_material.specs.KeyLists.{KeyLists}
use Rattle.heco_material.specs.declared.words.EncRow.{EncRow}
use Rattle.heco_measure.specs.Lines.{measured_text}
use Rattle.heco_measure.specs.Measuring.{measured_wires}
use Rattle.heco_measure.specs.declared.measuring.Measured.{Measured}
use Rattle.heco_products.specs.Encrypting.{encrypted_messages, inputs_file, messages_file, pairs_file}
use Rattle.heco_products.specs.KeyProducts.{circuit_key, evaluation_file, secret_file}
use Rattle.heco_nums.specs.PresetRows.{preset_of}
use Rattle.heco_products.specs.Results.{keys_of}
use Rattle.heco_run_laws.specs.Carried.{two_row_messages}
use Rattle.heco_run_laws.specs.Measured.{IsMessage}
use Rattle.heco_run_laws.specs.Messages.{input_message}
use Rattle.heco_run_laws.specs.Runs.{Ciphertext}
use Rattle.heco_jobs.specs.Agents.{Agents}
use Rattle.heco_jobs.specs.Done.{Done, IsReadAs}
use Rattle.heco_jobs.specs.Laws.{IsClear, HasFiles}
use Rattle.heco_jobs.specs.Outsides.{Files, Outside}
use Rattle.heco_jobs.specs.Words.{name_of}
use Rattle.heco_reads.specs.CiphertextFiles.{SpellsCiphertexts}
use Rattle.heco_reads.specs.KeyFiles.{SpellsEvaluation, SpellsSecret}
use Rattle.heco_tasks.specs.MeasureTask.{measure_job}
use Rattle.heco_tasks.specs.Running.{HasKeys}

-- ---- whatever the files hold

-- CIR is read as this circuit, SEC as this secret, EVA as this evaluation key, which has every key that the circuit needs, and
-- CTS as these ciphertexts of its inputs
pub record AreMeasureGiven (words : List (List ℕ)) (file : Files) (c : Circuit) (s : List ℤ) (key : EvalLists) (inputs : List Ciphertext) : Type 0 where
  pub cir : IsReadAs words file 1 Spells c
  pub sec : IsReadAs words file 2 (SpellsSecret (preset_of c.preset)) s
  pub eva : IsReadAs words file 3 (SpellsEvaluation (preset_of c.preset)) key
  pub needed : HasKeys c key
  pub cts : IsReadAs words file 4 (SpellsCiphertexts Cts (preset_of c.preset) (length c.inputs)) inputs

-- standard output grew by a line for each wire of the circuit's run on CTS with EVA, by rising number: the wire, its noise under SEC, and its written bound
pub record PrintsMeasured (words : List (List ℕ)) (old new : Outside) : Type 0 where
  pub circuit : Circuit
  pub secret : List ℤ
  pub key : EvalLists
  pub inputs : List Ciphertext
  pub given : AreMeasureGiven words old.file circuit secret key inputs
  pub printed : new.taken ≡ old.taken ++ measured_text (measured_wires (preset_of circuit.preset) secret (keys_of key) circuit inputs)

-- so it is where the job of `measure` is done
abbrev pub DoneIsMeasured : Type 0
DoneIsMeasured = (words : List (List ℕ)) (agents left : Agents) (old new : Outside) → Done words (measure_job agents) left old new
    → PrintsMeasured words old new

-- ---- files of one chain

-- CIR, SEC and EVA hold a valid circuit and both keys that are made for it of this key material, which is within bounds, as the encryption material is
pub record HoldBothKeys (words : List (List ℕ)) (file : Files) (c : Circuit) (k : KeyLists) (material : List EncRow) : Type 0 where
  pub provided : IsProvided (preset_of c.preset) c k material
  pub circuit : file (name_of words 1) ≡ Some (circuit_text c)
  pub secret : file (name_of words 2) ≡ Some (secret_file (preset_of c.preset) k)
  pub evaluation : file (name_of words 3) ≡ Some (evaluation_file (preset_of c.preset) c k)

-- and CTS holds a message for each input, n numbers below t, encrypted by EVA and the encryption material
pub record HoldChainFiles (words : List (List ℕ)) (file : Files) (c : Circuit) (k : KeyLists) (material : List EncRow) (messages : List (List ℕ)) : Type 0 where
  pub keys : HoldBothKeys words file c k material
  pub count : length messages ≡ length c.inputs
  pub are_messages : All (IsMessage (preset_of c.preset)) messages
  pub ciphertexts : file (name_of words 4) ≡ Some (messages_file (preset_of c.preset) (circuit_key (preset_of c.preset) c k) material messages)

-- so it is of the file that `encrypt` and `exec` write, of one row of values, and of that of `pair`, of two
abbrev pub EncryptedFilesAreOfTheChain : Type 0
EncryptedFilesAreOfTheChain =
    (words : List (List ℕ)) (file : Files) (c : Circuit) (k : KeyLists) (material : List EncRow) (first second : List (List ℕ))
    → HoldBothKeys words file c k material → length first ≡ length c.inputs → length second ≡ length c.inputs
    → (file (name_of words 4) ≡ Some (inputs_file (preset_of c.preset) (circuit_key (preset_of c.preset) c k) material first)
    → HoldChainFiles words file c k material (map (input_message (preset_of c.preset)) first))
    × (file (name_of words 4) ≡ Some (pairs_file (preset_of c.preset) (circuit_key (preset_of c.preset) c k) material first second)
    → HoldChainFiles words file c k material (two_row_messages (preset_of c.preset) first second))

-- what is measured of them
abbrev pub chain_lines : Circuit → KeyLists → List EncRow → List (List ℕ) → List Measured
chain_lines c k material messages =
    let p = preset_of c.preset in
    let key = circuit_key p c k in
    measured_wires p k.s (keys_of key) c (encrypted_messages p key material messages)

-- `measure` refuses none of them and finds all that it reads
abbrev pub ChainFilesAreReady : Type 0
ChainFilesAreReady =
    (words : List (List ℕ)) (agents : Agents) (file : Files) (c : Circuit) (k : KeyLists) (material : List EncRow) (messages : List (List ℕ))
    → HoldChainFiles words file c k material messages → IsClear words (measure_job agents) file × HasFiles words (measure_job agents) file

-- of whatever chain the files are, standard output grew by its lines, and in none is the noise above the bound
abbrev pub PrintsChainWithinBounds : List (List ℕ) → Outside → Outside → Type 0
PrintsChainWithinBounds words old new =
    (c : Circuit) (k : KeyLists) (material : List EncRow) (messages : List (List ℕ)) → HoldChainFiles words old.file c k material messages
    → (new.taken ≡ old.taken ++ measured_text (chain_lines c k material messages))
    × All (λ (m : Measured). m.noise ≤ m.bound) (chain_lines c k material messages)

-- so it is where the job of `measure` is done
abbrev pub DoneIsWithinBounds : Type 0
DoneIsWithinBounds = (words : List (List ℕ)) (agents left : Agents) (old new : Outside) → Done words (measure_job agents) left old new
    → PrintsChainWithinBounds words old new
