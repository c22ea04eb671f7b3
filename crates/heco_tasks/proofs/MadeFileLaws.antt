-- Nothing that `keys` and `encrypt` made for a circuit is refused by `run`.
use Rattle.std.proofs.Common.{◌≡◌, ◌∙◌, ◌&&◌, not, ℕ, Bool, true, false, List, [], ◌∷◌, length, map, Option, Some, None, refl, sym, ap, subst, eqb}
use Rattle.std.specs.Prelude.{if◌then◌else◌}
use Rattle.std.specs.Option.{option_map}
use Rattle.std.proofs.lemmas.Bool.{eq-eqb, or_left, or_right}
use Rattle.std.proofs.lemmas.Option.{same_Some}
use Rattle.heco_circuit.specs.CircuitFile.{Spells}
use Rattle.heco_circuit.specs.CircuitFormat.{circuit_text}
use Rattle.heco_circuit.specs.Needs.{needs_relin, needed_turns}
use Rattle.heco_circuit.specs.Plans.{Plan as Circuit}
use Rattle.heco_ciphertext_files.specs.declared.kind.FileKind.TheVariants.{Cts}
use Rattle.heco_end_to_end.proofs.DecryptedRuns.{runs_are_read, many_rows}
use Rattle.heco_end_to_end.proofs.InARow.{made_keys_read}
use Rattle.heco_key_files.specs.KeyFiles.{EvalLists, made_key}
use Rattle.heco_material.specs.KeyLists.{KeyLists}
use Rattle.heco_material.specs.declared.words.EncRow.{EncRow}
use Rattle.heco_nums.specs.declared.preset.Preset.{Preset}
use Rattle.heco_products.specs.Encrypting.{encrypted_inputs, inputs_file, messages_file}
use Rattle.heco_products.specs.KeyProducts.{circuit_key, evaluation_file}
use Rattle.heco_nums.specs.PresetRows.{preset_of}
use Rattle.heco_run_laws.specs.Messages.{input_message}
use Rattle.heco_schedules.specs.Rising.{names}
use Rattle.heco_run.specs.Refusals.{missing_turn}
use Rattle.heco_jobs.specs.Agents.{Agents}
use Rattle.heco_jobs.specs.Laws.{IsClear, HasFiles}
use Rattle.heco_jobs.specs.Outsides.{Files}
use Rattle.heco_reads.proofs.CircuitLaws.{spells_once}
use Rattle.heco_reads.proofs.KeyFileLaws.{evaluation_alone}
use Rattle.heco_reads.specs.CiphertextFiles.{SpellsCiphertexts}
use Rattle.heco_reads.specs.KeyFiles.{SpellsEvaluation}
use Rattle.heco_tasks.specs.CircuitTasks.{run_job, run_key_job, served_job, ciphertexts_job}
use Rattle.heco_tasks.specs.MadeFiles.{HoldMadeFiles}
use Rattle.heco_tasks.specs.Running.{key_refusal, HasKeys}

-- ---- a key that is made for a circuit has the keys that it needs

-- no number of a list is missing where all are named
none_of_named : (turns needed : List ℕ) → ((r : ℕ) → names needed r ≡ true → names turns r ≡ true) → missing_turn needed turns ≡ None
none_of_named turns [] named = refl
none_of_named turns (r ∷ rest) named =
    rw (named r (or_left (eqb r r) (names rest r) (eq-eqb r r refl))) (none_of_named turns rest (λ s later. named s (or_right (eqb r s) (names rest s) later)))

needed_alone : (b : Bool) (missing : Option ℕ) → missing ≡ None → {X : Type 0} → (x : X) (f : ℕ → X) → (if b && not b then Some x else option_map f missing) ≡ None
needed_alone true missing none x f = ap (option_map f) none
needed_alone false missing none x f = ap (option_map f) none

pub made_keys_serve : (p : Preset) (c : Circuit) (k : KeyLists) → HasKeys c (circuit_key p c k)
unfolding key_refusal made_key
made_keys_serve p c k = needed_alone (needs_relin c) (missing_turn (needed_turns c) (needed_turns c)) (none_of_named (needed_turns c) (needed_turns c) (λ r h. h)) _ _

-- ---- the files

module _ (words : List (List ℕ)) (agents : Agents) (file : Files) (c : Circuit) (k : KeyLists) (material : List EncRow) (rows : List (List ℕ)) (held : HoldMadeFiles words file c k material rows) where
  abbrev p : Preset
  p = preset_of c.preset

  abbrev key : EvalLists
  key = circuit_key p c k

  spelled_circuit : Spells (circuit_text c) c
  spelled_circuit = record { valid = held.runnable.provided.valid; text = refl }

  spelled_key : SpellsEvaluation p (evaluation_file p c k) key
  unfolding evaluation_file
  spelled_key = record { within = made_keys_read p c k held.runnable.provided.preset held.runnable.provided.keys; spelled = refl }

  spelled_inputs : SpellsCiphertexts Cts p (length c.inputs) (inputs_file p key material rows) (encrypted_inputs p key material rows)
  unfolding messages_file
  spelled_inputs = record {
    within = (runs_are_read p c k material (map (input_message p) rows) held.runnable.provided (many_rows p c k material rows held.runnable)).0;
    spelled = refl;
  }

  ciphertexts_clear : IsClear words (ciphertexts_job agents p c key) file
  unfolding IsClear ciphertexts_job
  ciphertexts_clear text at =
      ((encrypted_inputs p key material rows, subst (λ t. SpellsCiphertexts Cts p (length c.inputs) t (encrypted_inputs p key material rows)) (same_Some _ text (sym held.ciphertexts ∙ at)) spelled_inputs), (λ inputs fits. tt))

  ciphertexts_there : HasFiles words (ciphertexts_job agents p c key) file
  unfolding HasFiles ciphertexts_job
  ciphertexts_there = (inputs_file p key material rows, (held.ciphertexts, (λ inputs fits. tt)))

  key_clear : IsClear words (run_key_job agents p c) file
  unfolding IsClear run_key_job served_job
  key_clear text at =
      let spelled = subst (λ t. SpellsEvaluation p t key) (same_Some _ text (sym held.evaluation ∙ at)) spelled_key in (
        (key, spelled),
        (λ e fits. subst (λ f. IsClear words (served_job agents p c f) file) (evaluation_alone p text key e spelled fits)
            ((tt, made_keys_serve p c k), (λ u has. ciphertexts_clear))),
      )

  key_there : HasFiles words (run_key_job agents p c) file
  unfolding HasFiles run_key_job served_job
  key_there = (evaluation_file p c k, (held.evaluation, (λ e fits. subst (λ f. HasFiles words (served_job agents p c f) file) (evaluation_alone p (evaluation_file p c k) key e spelled_key fits) (λ u has. ciphertexts_there))))

  circuit_clear : IsClear words (run_job agents) file
  unfolding IsClear run_job
  circuit_clear text at =
      let spelled = subst (λ t. Spells t c) (same_Some _ text (sym held.circuit ∙ at)) spelled_circuit in
      ((c, spelled), (λ d fits. subst (λ e. IsClear words (run_key_job agents (preset_of e.preset) e) file) (spells_once text c d spelled fits) key_clear))

  circuit_there : HasFiles words (run_job agents) file
  unfolding HasFiles run_job
  circuit_there = (circuit_text c, (held.circuit, (λ d fits. subst (λ e. HasFiles words (run_key_job agents (preset_of e.preset) e) file) (spells_once (circuit_text c) c d spelled_circuit fits) key_there)))

  pub made_files_clear : IsClear words (run_job agents) file × HasFiles words (run_job agents) file
  made_files_clear = (circuit_clear, circuit_there)
