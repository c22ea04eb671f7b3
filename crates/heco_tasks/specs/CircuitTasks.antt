-- What is done with a circuit: the plan and the job of each command that reads one first.
use Rattle.std.specs.Prelude.{◌≡◌, ℕ, true, false, List, [], ◌∷◌, length, ℤ}
use Rattle.heco_ciphertext_files.specs.declared.kind.FileKind.TheVariants.{Cts, Res}
use Rattle.heco_circuit.specs.CircuitFile.{Spells}
use Rattle.heco_circuit.specs.Needs.{needed_keys}
use Rattle.heco_circuit.specs.Plans.{Plan as Circuit}
use Rattle.heco_key_files.specs.KeyFiles.{EvalLists}
use Rattle.heco_listing.specs.Listings.{listing_of}
use Rattle.heco_material.specs.KeyLists.{KeyLists}
use Rattle.heco_material.specs.declared.words.EncRow.{EncRow}
use Rattle.heco_nums.specs.declared.preset.Preset.{Preset}
use Rattle.heco_nums.specs.declared.shape.Values.{Values}
use Rattle.heco_products.specs.Decrypting.{output_wire_count, outputs_text}
use Rattle.heco_products.specs.Encrypting.{inputs_file}
use Rattle.heco_products.specs.KeyProducts.{secret_file, evaluation_file}
use Rattle.heco_nums.specs.PresetRows.{preset_of}
use Rattle.heco_products.specs.Results.{results_file}
use Rattle.heco_texts.specs.Answers.{IsRead}
use Rattle.heco_jobs.specs.Agents.{Agents, asking_none}
use Rattle.heco_jobs.specs.Jobs.{Job, Read, Judge, Give}
use Rattle.heco_jobs.specs.Plans.{Plan}
use Rattle.heco_jobs.specs.Products.{Prints, Stores, planned}
use Rattle.heco_jobs.specs.declared.product.Planned.{Planned}
use Rattle.heco_jobs.specs.declared.product.Product.{Product}
use Rattle.heco_reads.specs.CiphertextFiles.{SpellsCiphertexts, IsCiphertextsRefusal}
use Rattle.heco_reads.specs.CircuitFiles.{IsCircuitRefusal}
use Rattle.heco_reads.specs.KeyFiles.{SpellsEvaluation, IsEvaluationRefusal, SpellsSecret, IsSecretRefusal}
use Rattle.heco_reads.specs.MaterialFiles.{SpellsKeys, IsKeysRefusal, SpellsEncryptions, IsEncryptionsRefusal}
use Rattle.heco_reads.specs.SourceFiles.{IsTextRefusal}
use Rattle.heco_tasks.specs.DrawnFiles.{key_material_file, encryption_material_file}
use Rattle.heco_tasks.specs.Running.{HasKeys, IsKeyRefusal, Leads}

abbrev pub two_files : List ℕ → List ℕ → List Planned
two_files first second = planned 3 first ∷ planned 4 second ∷ []

-- the circuit is read from the first word, and this is done with it
abbrev pub on_circuit : (Circuit → Job) → Job
on_circuit next = Read 1 Circuit Spells (IsCircuitRefusal 1) next

-- ---- show CIR

abbrev pub show_plan : Plan
show_plan = record { reads = 1 ∷ []; writes = []; prints = true }

unfoldable pub shown_job : Agents → Circuit → Job
shown_job agents c = Give (asking_none agents (Prints (listing_of c)))

-- ---- draw CIR SEED KMAT EMAT

abbrev pub draw_plan : Plan
draw_plan = record { reads = 1 ∷ []; writes = 3 ∷ 4 ∷ []; prints = false }

unfoldable pub drawn_job : Agents → ℕ → Circuit → Job
drawn_job agents seed c = Give (asking_none agents (Stores (two_files (key_material_file c seed) (encryption_material_file c seed))))

-- ---- keys CIR KMAT SEC EVA

abbrev pub keys_plan : Plan
keys_plan = record { reads = 1 ∷ 2 ∷ []; writes = 3 ∷ 4 ∷ []; prints = false }

-- the key material is read as that of the circuit, and the keys that are made of it are written
unfoldable pub material_job : Agents → Preset → Circuit → Job
material_job agents p c =
    Read 2 KeyLists (SpellsKeys p (needed_keys c)) (IsKeysRefusal 2 p (needed_keys c))
    (λ k. Give (asking_none agents (Stores (two_files (secret_file p k) (evaluation_file p c k)))))

-- ---- encrypt CIR EVA EMAT IN CTS

abbrev pub encrypt_plan : Plan
encrypt_plan = record { reads = 1 ∷ 2 ∷ 3 ∷ 4 ∷ []; writes = 5 ∷ []; prints = false }

-- the values are read as those of the circuit's inputs, and the file of the encrypted inputs is written
unfoldable pub inputs_job : Agents → Preset → Circuit → EvalLists → List EncRow → Job
inputs_job agents p c key rows =
    Read 4 Values (IsRead p.t c.inputs) (IsTextRefusal p.t c.inputs) (λ v. Give (asking_none agents (Stores (planned 5 (inputs_file p key rows v.rows) ∷ []))))

-- before them the material is read, a row for each input
unfoldable pub encryptions_job : Agents → Preset → Circuit → EvalLists → Job
encryptions_job agents p c key =
    Read 3 (List EncRow) (SpellsEncryptions p (length c.inputs)) (IsEncryptionsRefusal 3 p (length c.inputs)) (inputs_job agents p c key)

-- and before it the evaluation key
unfoldable pub evaluation_job : Agents → Preset → Circuit → Job
evaluation_job agents p c = Read 2 EvalLists (SpellsEvaluation p) (IsEvaluationRefusal 2 p) (encryptions_job agents p c)

-- ---- run CIR EVA CTS RES

abbrev pub run_plan : Plan
run_plan = record { reads = 1 ∷ 2 ∷ 3 ∷ []; writes = 4 ∷ []; prints = false }

-- the file of the circuit's result from these inputs is written, the picker is left as a run leaves it, and the passes as they were
abbrev pub Runs : Agents → Preset → Circuit → EvalLists → List (List (List ℕ)) → Product → Agents → Type 0
Runs agents p c key inputs product left = Stores (planned 4 (results_file p c key inputs) ∷ []) product
    × (Leads c agents.picker left.picker × (left.passes ≡ agents.passes))

-- the ciphertexts are read as those of the circuit's inputs
unfoldable pub ciphertexts_job : Agents → Preset → Circuit → EvalLists → Job
ciphertexts_job agents p c key =
    Read 3 (List (List (List ℕ))) (SpellsCiphertexts Cts p (length c.inputs)) (IsCiphertextsRefusal 3 Cts p (length c.inputs))
    (λ inputs. Give (Runs agents p c key inputs))

-- before them it is judged whether a key is missing
unfoldable pub served_job : Agents → Preset → Circuit → EvalLists → Job
served_job agents p c key = Judge (Unit {0}) (λ _. HasKeys c key) (IsKeyRefusal c key) (λ _. ciphertexts_job agents p c key)

-- and before that the evaluation key is read
unfoldable pub run_key_job : Agents → Preset → Circuit → Job
run_key_job agents p c = Read 2 EvalLists (SpellsEvaluation p) (IsEvaluationRefusal 2 p) (served_job agents p c)

-- ---- decrypt CIR SEC RES

abbrev pub decrypt_plan : Plan
decrypt_plan = record { reads = 1 ∷ 2 ∷ 3 ∷ []; writes = []; prints = true }

-- the ciphertexts are read as those of the outputs' wires, and the text of the outputs is printed
unfoldable pub result_job : Agents → Preset → Circuit → List ℤ → Job
result_job agents p c s =
    Read 3 (List (List (List ℕ))) (SpellsCiphertexts Res p (output_wire_count c)) (IsCiphertextsRefusal 3 Res p (output_wire_count c))
    (λ cs. Give (asking_none agents (Prints (outputs_text p c s cs))))

-- before them the secret key is read
unfoldable pub secret_job : Agents → Preset → Circuit → Job
secret_job agents p c = Read 2 (List ℤ) (SpellsSecret p) (IsSecretRefusal 2 p) (result_job agents p c)

-- ---- the jobs

unfoldable pub show_job : Agents → Job
show_job agents = on_circuit (shown_job agents)

unfoldable pub draw_job : Agents → ℕ → Job
draw_job agents seed = on_circuit (drawn_job agents seed)

unfoldable pub keys_job : Agents → Job
keys_job agents = on_circuit (λ c. material_job agents (preset_of c.preset) c)

unfoldable pub encrypt_job : Agents → Job
encrypt_job agents = on_circuit (λ c. evaluation_job agents (preset_of c.preset) c)

unfoldable pub run_job : Agents → Job
run_job agents = on_circuit (λ c. run_key_job agents (preset_of c.preset) c)

unfoldable pub decrypt_job : Agents → Job
decrypt_job agents = on_circuit (λ c. secret_job agents (preset_of c.preset) c)
