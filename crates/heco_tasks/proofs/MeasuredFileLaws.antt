-- The files of one chain are read by `measure`, and no noise that it prints of them is above its bound.
use Rattle.std.proofs.Common.{◌≡◌, ◌∙◌, ◌≤◌, ◌<◌, ◌++◌, ℕ, List, [], length, Some, refl, sym, ap, subst, arith}
use Rattle.std.specs.Prelude.{All, unwrap_or}
use Rattle.std.specs.List.{range_with_len}
use Rattle.std.proofs.lemmas.List.Elements.{All-map}
use Rattle.std.proofs.lemmas.List.FromFn.{get_or-range_with_len, length-range_with_len}
use Rattle.std.proofs.lemmas.Option.{same_Some}
use Rattle.heco_circuit.specs.CircuitFile.{Spells}
use Rattle.heco_circuit.specs.CircuitFormat.{circuit_text}
use Rattle.heco_circuit.specs.Plans.{Plan as Circuit}
use Rattle.heco_ciphertext_files.specs.declared.kind.FileKind.TheVariants.{Cts}
use Rattle.heco_end_to_end.proofs.DecryptedRuns.{runs_are_read}
use Rattle.heco_end_to_end.proofs.InARow.{made_keys_read}
use Rattle.heco_end_to_end.proofs.MeasuredRuns.{measured_within}
use Rattle.heco_key_files.specs.KeyFiles.{EvalLists}
use Rattle.heco_material.specs.KeyLists.{KeyLists}
use Rattle.heco_material.specs.declared.words.EncRow.{EncRow}
use Rattle.heco_measure.specs.Lines.{measured_text}
use Rattle.heco_measure.specs.Measuring.{measured_wire, measured_wires}
use Rattle.heco_measure.specs.declared.measuring.Measured.{Measured}
use Rattle.heco_nums.specs.declared.preset.Preset.{Preset}
use Rattle.heco_products.specs.Encrypting.{encrypted_messages, messages_file}
use Rattle.heco_products.specs.KeyProducts.{circuit_key, evaluation_file, secret_file}
use Rattle.heco_nums.specs.PresetRows.{preset_of}
use Rattle.heco_products.specs.Results.{keys_of}
use Rattle.heco_run_laws.specs.Results.{wire_count}
use Rattle.heco_jobs.specs.Agents.{Agents, asking_none}
use Rattle.heco_jobs.specs.Done.{Owes}
use Rattle.heco_jobs.specs.Jobs.{Job, Read, Give}
use Rattle.heco_jobs.specs.Laws.{IsClear, HasFiles}
use Rattle.heco_jobs.specs.Outsides.{Files}
use Rattle.heco_jobs.specs.Products.{Prints}
use Rattle.heco_jobs.specs.Words.{name_of}
use Rattle.heco_jobs.specs.declared.outcome.Refusal.{Refusal}
use Rattle.heco_jobs.specs.declared.product.Product.{Product}
use Rattle.heco_reads.proofs.CiphertextLaws.{ciphertexts_alone}
use Rattle.heco_reads.proofs.CircuitLaws.{spells_once}
use Rattle.heco_reads.proofs.KeyFileLaws.{evaluation_alone, secret_alone}
use Rattle.heco_reads.specs.CiphertextFiles.{SpellsCiphertexts, IsCiphertextsRefusal}
use Rattle.heco_reads.specs.CircuitFiles.{IsCircuitRefusal}
use Rattle.heco_reads.specs.KeyFiles.{SpellsEvaluation, IsEvaluationRefusal, SpellsSecret, IsSecretRefusal}
use Rattle.heco_tasks.proofs.MadeFileLaws.{made_keys_serve}
use Rattle.heco_tasks.specs.MeasuredFiles.{HoldChainFiles, ChainFilesAreReady, DoneIsWithinBounds, chain_lines}
use Rattle.heco_tasks.specs.MeasureTask.{measure_job, measured_secret_job, measured_key_job, measured_served_job, noise_job, noise_text}

-- ---- a file that can be read as one thing alone

module _ (words : List (List ℕ)) (file : Files) {Thing : Type 0} (which : ℕ) (Fits : List ℕ → Thing → Type 0) (Refuses : List ℕ → Refusal → Type 0) (next : Thing → Job)
    (alone : (text : List ℕ) (x y : Thing) → Fits text x → Fits text y → x ≡ y) (text : List ℕ) (thing : Thing) (held : file (name_of words which) ≡ Some text) (fits : Fits text thing) where
  clear_read : IsClear words (next thing) file → IsClear words (Read which Thing Fits Refuses next) file
  unfolding IsClear
  clear_read clear found at =
      let same = subst (λ t. Fits t thing) (same_Some text found (sym held ∙ at)) fits in
      ((thing, same), (λ x other. subst (λ y. IsClear words (next y) file) (alone found thing x same other) clear))

  there_read : HasFiles words (next thing) file → HasFiles words (Read which Thing Fits Refuses next) file
  unfolding HasFiles
  there_read there = (text, (held, (λ x other. subst (λ y. HasFiles words (next y) file) (alone text thing x fits other) there)))

-- ---- the files of a chain

module _ (words : List (List ℕ)) (agents : Agents) (file : Files) (c : Circuit) (k : KeyLists) (material : List EncRow) (messages : List (List ℕ)) (held : HoldChainFiles words file c k material messages) where
  abbrev p : Preset
  p = preset_of c.preset

  abbrev key : EvalLists
  key = circuit_key p c k

  abbrev inputs : List (List (List ℕ))
  inputs = encrypted_messages p key material messages

  spelled_circuit : Spells (circuit_text c) c
  spelled_circuit = record { valid = held.keys.provided.valid; text = refl }

  spelled_secret : SpellsSecret p (secret_file p k) k.s
  spelled_secret = record { within = held.keys.provided.keys.secret; spelled = refl }

  spelled_key : SpellsEvaluation p (evaluation_file p c k) key
  unfolding evaluation_file
  spelled_key = record { within = made_keys_read p c k held.keys.provided.preset held.keys.provided.keys; spelled = refl }

  spelled_inputs : SpellsCiphertexts Cts p (length c.inputs) (messages_file p key material messages) inputs
  unfolding messages_file
  spelled_inputs = record { within = (runs_are_read p c k material messages held.keys.provided held.count).0; spelled = refl }

  abbrev printed : List (List (List ℕ)) → Job
  printed cs = Give (asking_none agents (Prints (noise_text p c k.s key cs)))

  inputs_clear : IsClear words (noise_job agents p c k.s key) file
  unfolding noise_job IsClear
  inputs_clear = clear_read words file 4 (SpellsCiphertexts Cts p (length c.inputs)) (IsCiphertextsRefusal 4 Cts p (length c.inputs)) printed (ciphertexts_alone Cts p (length c.inputs))
      (messages_file p key material messages) inputs held.ciphertexts spelled_inputs tt

  inputs_there : HasFiles words (noise_job agents p c k.s key) file
  unfolding noise_job HasFiles
  inputs_there = there_read words file 4 (SpellsCiphertexts Cts p (length c.inputs)) (IsCiphertextsRefusal 4 Cts p (length c.inputs)) printed (ciphertexts_alone Cts p (length c.inputs))
      (messages_file p key material messages) inputs held.ciphertexts spelled_inputs tt

  served_clear : IsClear words (measured_served_job agents p c k.s key) file
  unfolding measured_served_job IsClear
  served_clear = ((tt, made_keys_serve p c k), (λ u has. inputs_clear))

  served_there : HasFiles words (measured_served_job agents p c k.s key) file
  unfolding measured_served_job HasFiles
  served_there = λ u has. inputs_there

  key_clear : IsClear words (measured_key_job agents p c k.s) file
  unfolding measured_key_job
  key_clear = clear_read words file 3 (SpellsEvaluation p) (IsEvaluationRefusal 3 p) (measured_served_job agents p c k.s) (evaluation_alone p) (evaluation_file p c k) key held.keys.evaluation spelled_key served_clear

  key_there : HasFiles words (measured_key_job agents p c k.s) file
  unfolding measured_key_job
  key_there = there_read words file 3 (SpellsEvaluation p) (IsEvaluationRefusal 3 p) (measured_served_job agents p c k.s) (evaluation_alone p) (evaluation_file p c k) key held.keys.evaluation spelled_key served_there

  secret_clear : IsClear words (measured_secret_job agents p c) file
  unfolding measured_secret_job
  secret_clear = clear_read words file 2 (SpellsSecret p) (IsSecretRefusal 2 p) (measured_key_job agents p c) (secret_alone p) (secret_file p k) k.s held.keys.secret spelled_secret key_clear

  secret_there : HasFiles words (measured_secret_job agents p c) file
  unfolding measured_secret_job
  secret_there = there_read words file 2 (SpellsSecret p) (IsSecretRefusal 2 p) (measured_key_job agents p c) (secret_alone p) (secret_file p k) k.s held.keys.secret spelled_secret key_there

  circuit_clear : IsClear words (measure_job agents) file
  unfolding measure_job
  circuit_clear = clear_read words file 1 Spells (IsCircuitRefusal 1) (λ d. measured_secret_job agents (preset_of d.preset) d) spells_once (circuit_text c) c held.keys.circuit spelled_circuit secret_clear

  circuit_there : HasFiles words (measure_job agents) file
  unfolding measure_job
  circuit_there = there_read words file 1 Spells (IsCircuitRefusal 1) (λ d. measured_secret_job agents (preset_of d.preset) d) spells_once (circuit_text c) c held.keys.circuit spelled_circuit secret_there

  abbrev line : ℕ → Measured
  line = measured_wire p k.s (keys_of key) c inputs

  all_within : All (λ (m : Measured). m.noise ≤ m.bound) (chain_lines c k material messages)
  unfolding measured_wires
  all_within =
      let bounded = (measured_within p c k material messages held.keys.provided held.count held.are_messages).noises in
      All-map (λ (m : Measured). m.noise ≤ m.bound) line (range_with_len 0 (wire_count c)) (λ i d l.
      (let inside : i < wire_count c = omega (arith, l, length-range_with_len 0 (wire_count c)) in
      let at = get_or-range_with_len 0 (wire_count c) i d inside ∙ omega arith in
      subst (λ (w : ℕ). (line w).noise ≤ (line w).bound) (sym at) (bounded i inside)))

  -- what `measure` prints of them, whatever it owes
  owed_text : (left : Agents) (product : Product) → Owes words (measure_job agents) left file product → Prints (measured_text (chain_lines c k material messages)) product
  unfolding Owes measure_job measured_secret_job measured_key_job measured_served_job noise_job noise_text
  owed_text left product owes =
      (owes (circuit_text c) c held.keys.circuit spelled_circuit (secret_file p k) k.s held.keys.secret spelled_secret (evaluation_file p c k) key held.keys.evaluation spelled_key tt (made_keys_serve p c k)
      (messages_file p key material messages) inputs held.ciphertexts spelled_inputs).0

pub chain_ready : ChainFilesAreReady
chain_ready words agents file c k material messages held = (circuit_clear words agents file c k material messages held, circuit_there words agents file c k material messages held)

pub done_is_within : DoneIsWithinBounds
done_is_within words agents left old new d c k material messages held = (
  d.printed ∙ ap (λ text. old.taken ++ unwrap_or text []) (owed_text words agents old.file c k material messages held left d.product d.owed).text,
  all_within words agents old.file c k material messages held,
)
