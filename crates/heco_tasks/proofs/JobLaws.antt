-- Of the job of each command: it reads the words of its plan in order and gives what is planned; each file can be read as one thing alone; and it writes into file words.
use Rattle.std.proofs.Common.{◌≡◌, ◌∙◌, ℕ, List, Ok, refl, sym, ap, length}
use Rattle.heco_ciphertext_files.specs.declared.kind.FileKind.TheVariants.{Cts, Res}
use Rattle.heco_circuit.specs.Needs.{needed_keys}
use Rattle.heco_nums.specs.declared.shape.Shape.{Shape}
use Rattle.heco_nums.specs.declared.shape.Values.{Values}
use Rattle.heco_products.specs.Decrypting.{output_wire_count}
use Rattle.heco_nums.specs.PresetRows.{preset_of}
use Rattle.heco_sources.proofs.SourceLaws.{one_source}
use Rattle.heco_texts.specs.Answers.{IsRead}
use Rattle.heco_jobs.specs.Agents.{Agents}
use Rattle.heco_jobs.proofs.DoneLaws.{Tells}
use Rattle.heco_jobs.proofs.PlanLaws.{Plans, fits_print, fits_store}
use Rattle.heco_reads.proofs.CiphertextLaws.{ciphertexts_alone}
use Rattle.heco_reads.proofs.CircuitLaws.{spells_once}
use Rattle.heco_reads.proofs.KeyFileLaws.{evaluation_alone, secret_alone}
use Rattle.heco_reads.proofs.MaterialLaws.{keys_alone, encryptions_alone}
use Rattle.heco_tasks.specs.CircuitTasks.{show_plan, draw_plan, keys_plan, encrypt_plan, run_plan, decrypt_plan, show_job, draw_job, keys_job, encrypt_job, run_job, decrypt_job, shown_job, drawn_job, material_job, evaluation_job, encryptions_job, inputs_job, run_key_job, served_job, ciphertexts_job, secret_job, result_job}
use Rattle.heco_tasks.specs.MeasureTask.{measure_plan, measure_job, measured_secret_job, measured_key_job, measured_served_job, noise_job}
use Rattle.heco_tasks.specs.SourceTasks.{plain_plan, plain_job, values_job, outputs_job, compile_plan, compile_job, accepted_job}

abbrev values_of : List (List ℕ) → Values
values_of rows = record { rows = rows }

inputs_alone : (t : ℕ) (shapes : List Shape) (text : List ℕ) (v w : Values) → IsRead t shapes text v → IsRead t shapes text w → v ≡ w
inputs_alone t shapes text v w hv hw = ap values_of (hv.rows ∙ sym hw.rows)

module _ (agents : Agents) where
  -- ---- plain

  pub plans_plain : Plans (plain_job agents) plain_plan.reads plain_plan
  unfolding Plans plain_job values_job outputs_job
  plans_plain = (refl, (λ s. (refl, (λ v out p left h. fits_print plain_plan _ p refl refl h.0))))

  pub tells_plain : Tells (plain_job agents)
  unfolding Tells plain_job values_job outputs_job
  tells_plain = (one_source, λ s. ((λ text v w hv hw. ap values_of (hv.rows ∙ sym hw.rows)), λ v. ((λ out other h k. ap values_of (let both : Ok out.rows ≡ Ok other.rows = sym h ∙ k in cc)), λ out. tt)))

  -- ---- compile

  pub plans_compile : Plans (compile_job agents) compile_plan.reads compile_plan
  unfolding Plans compile_job accepted_job
  plans_compile = (refl, (λ s u p left h. fits_store compile_plan _ p refl refl h.stores))

  pub tells_compile : Tells (compile_job agents)
  unfolding Tells compile_job accepted_job
  tells_compile = (one_source, λ s. ((λ x y h k. refl), λ u. tt))

  -- ---- show

  pub plans_show : Plans (show_job agents) show_plan.reads show_plan
  unfolding Plans show_job shown_job
  plans_show = (refl, (λ c p left h. fits_print show_plan _ p refl refl h.0))

  pub tells_show : Tells (show_job agents)
  unfolding Tells show_job shown_job
  tells_show = (spells_once, λ c. tt)

  -- ---- draw

  pub plans_draw : (seed : ℕ) → Plans (draw_job agents seed) draw_plan.reads draw_plan
  unfolding Plans draw_job drawn_job
  plans_draw seed = (refl, (λ c p left h. fits_store draw_plan _ p refl refl h.0))

  pub tells_draw : (seed : ℕ) → Tells (draw_job agents seed)
  unfolding Tells draw_job drawn_job
  tells_draw seed = (spells_once, λ c. tt)

  -- ---- keys

  pub plans_keys : Plans (keys_job agents) keys_plan.reads keys_plan
  unfolding Plans keys_job material_job
  plans_keys = (refl, (λ c. (refl, (λ k p left h. fits_store keys_plan _ p refl refl h.0))))

  pub tells_keys : Tells (keys_job agents)
  unfolding Tells keys_job material_job
  tells_keys = (spells_once, λ c. (keys_alone (preset_of c.preset) (needed_keys c), λ k. tt))

  -- ---- encrypt

  pub plans_encrypt : Plans (encrypt_job agents) encrypt_plan.reads encrypt_plan
  unfolding Plans encrypt_job evaluation_job encryptions_job inputs_job
  plans_encrypt = (refl, (λ c. (refl, (λ key. (refl, (λ rows. (refl, (λ v p left h. fits_store encrypt_plan _ p refl refl h.0))))))))

  pub tells_encrypt : Tells (encrypt_job agents)
  unfolding Tells encrypt_job evaluation_job encryptions_job inputs_job
  tells_encrypt = (spells_once, λ c. let p = preset_of c.preset in (evaluation_alone p, λ key. (encryptions_alone p (length c.inputs), λ rows. (inputs_alone p.t c.inputs, λ v. tt))))

  -- ---- run

  pub plans_run : Plans (run_job agents) run_plan.reads run_plan
  unfolding Plans run_job run_key_job served_job ciphertexts_job
  plans_run = (refl, (λ c. (refl, (λ key u. (refl, (λ inputs p left h. fits_store run_plan _ p refl refl h.0))))))

  pub tells_run : Tells (run_job agents)
  unfolding Tells run_job run_key_job served_job ciphertexts_job
  tells_run = (spells_once, λ c. let p = preset_of c.preset in (evaluation_alone p, λ key. ((λ x y h k. refl), λ u. (ciphertexts_alone Cts p (length c.inputs), λ inputs. tt))))

  -- ---- decrypt

  pub plans_decrypt : Plans (decrypt_job agents) decrypt_plan.reads decrypt_plan
  unfolding Plans decrypt_job secret_job result_job
  plans_decrypt = (refl, (λ c. (refl, (λ s. (refl, (λ cs p left h. fits_print decrypt_plan _ p refl refl h.0))))))

  pub tells_decrypt : Tells (decrypt_job agents)
  unfolding Tells decrypt_job secret_job result_job
  tells_decrypt = (spells_once, λ c. let p = preset_of c.preset in (secret_alone p, λ s. (ciphertexts_alone Res p (output_wire_count c), λ cs. tt)))

  -- ---- measure

  pub plans_measure : Plans (measure_job agents) measure_plan.reads measure_plan
  unfolding Plans measure_job measured_secret_job measured_key_job measured_served_job noise_job
  plans_measure = (refl, (λ c. (refl, (λ s. (refl, (λ key u. (refl, (λ inputs p left h. fits_print measure_plan _ p refl refl h.0))))))))

  pub tells_measure : Tells (measure_job agents)
  unfolding Tells measure_job measured_secret_job measured_key_job measured_served_job noise_job
  tells_measure = (spells_once, λ c. let p = preset_of c.preset in (secret_alone p, λ s. (evaluation_alone p, λ key. ((λ x y h k. refl), λ u. (ciphertexts_alone Cts p (length c.inputs), λ inputs. tt)))))
