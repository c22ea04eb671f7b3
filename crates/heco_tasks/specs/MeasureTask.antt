-- measure CIR SEC EVA CTS: its plan and its job.
use Rattle.std.specs.Prelude.{ℕ, true, List, [], ◌∷◌, length, ℤ}
use Rattle.heco_ciphertext_files.specs.declared.kind.FileKind.TheVariants.{Cts}
use Rattle.heco_circuit.specs.Plans.{Plan as Circuit}
use Rattle.heco_key_files.specs.KeyFiles.{EvalLists}
use Rattle.heco_measure.specs.Lines.{measured_text}
use Rattle.heco_measure.specs.Measuring.{measured_wires}
use Rattle.heco_nums.specs.declared.preset.Preset.{Preset}
use Rattle.heco_nums.specs.PresetRows.{preset_of}
use Rattle.heco_products.specs.Results.{keys_of}
use Rattle.heco_jobs.specs.Agents.{Agents, asking_none}
use Rattle.heco_jobs.specs.Jobs.{Job, Read, Judge, Give}
use Rattle.heco_jobs.specs.Plans.{Plan}
use Rattle.heco_jobs.specs.Products.{Prints}
use Rattle.heco_reads.specs.CiphertextFiles.{SpellsCiphertexts, IsCiphertextsRefusal}
use Rattle.heco_reads.specs.KeyFiles.{SpellsEvaluation, IsEvaluationRefusal, SpellsSecret, IsSecretRefusal}
use Rattle.heco_tasks.specs.CircuitTasks.{on_circuit}
use Rattle.heco_tasks.specs.Running.{HasKeys, IsKeyRefusal}

-- each wire of the circuit's run on these inputs, by rising number, with its noise under the secret and its written bound
unfoldable pub noise_text : Preset → Circuit → List ℤ → EvalLists → List (List (List ℕ)) → List ℕ
noise_text p c s key inputs = measured_text (measured_wires p s (keys_of key) c inputs)

abbrev pub measure_plan : Plan
measure_plan = record { reads = 1 ∷ 2 ∷ 3 ∷ 4 ∷ []; writes = []; prints = true }

-- the ciphertexts are read as those of the circuit's inputs, and the noise of each wire is printed
unfoldable pub noise_job : Agents → Preset → Circuit → List ℤ → EvalLists → Job
noise_job agents p c s key =
    Read 4 (List (List (List ℕ))) (SpellsCiphertexts Cts p (length c.inputs)) (IsCiphertextsRefusal 4 Cts p (length c.inputs))
    (λ inputs. Give (asking_none agents (Prints (noise_text p c s key inputs))))

-- before them it is judged, as in `run`, whether a key is missing
unfoldable pub measured_served_job : Agents → Preset → Circuit → List ℤ → EvalLists → Job
measured_served_job agents p c s key = Judge (Unit {0}) (λ _. HasKeys c key) (IsKeyRefusal c key) (λ _. noise_job agents p c s key)

-- before that the evaluation key is read
unfoldable pub measured_key_job : Agents → Preset → Circuit → List ℤ → Job
measured_key_job agents p c s = Read 3 EvalLists (SpellsEvaluation p) (IsEvaluationRefusal 3 p) (measured_served_job agents p c s)

-- and before it the secret key
unfoldable pub measured_secret_job : Agents → Preset → Circuit → Job
measured_secret_job agents p c = Read 2 (List ℤ) (SpellsSecret p) (IsSecretRefusal 2 p) (measured_key_job agents p c)

unfoldable pub measure_job : Agents → Job
measure_job agents = on_circuit (λ c. measured_secret_job agents (preset_of c.preset) c)
