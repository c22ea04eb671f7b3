-- The job of `exec` reads the words of its plan in order and gives what is planned, and each file can be read as one thing alone.
use Rattle.std.proofs.Common.{◌∙◌, ℕ, List, refl, sym, ap, map, length}
use Rattle.std.specs.Prelude.{is_some}
use Rattle.heco_headline.specs.Exec.{files_of, source_keys}
use Rattle.heco_nums.specs.declared.shape.Values.{Values}
use Rattle.heco_sources.proofs.SourceLaws.{one_source}
use Rattle.heco_sources.specs.Inputs.{input_shapes}
use Rattle.heco_jobs.specs.Agents.{Agents}
use Rattle.heco_jobs.specs.Plans.{FitsPlan}
use Rattle.heco_jobs.specs.declared.product.Product.{Product}
use Rattle.heco_jobs.proofs.DoneLaws.{Tells}
use Rattle.heco_jobs.proofs.PlanLaws.{Plans}
use Rattle.heco_reads.proofs.MaterialLaws.{keys_alone, encryptions_alone}
use Rattle.heco_exec.specs.Chain.{Yields}
use Rattle.heco_exec.specs.ExecTask.{exec_plan, exec_job, accepted_job, inputs_job, keys_job, encryptions_job, source_preset}
use Rattle.heco_circuit.specs.Plans.{Plan as Circuit}
use Rattle.heco_material.specs.KeyLists.{KeyLists}
use Rattle.heco_material.specs.declared.words.EncRow.{EncRow}

abbrev values_of : List (List ℕ) → Values
values_of rows = record { rows = rows }

pub fits_exec : (c : Circuit) (k : KeyLists) (material : List EncRow) (rows : List (List ℕ)) (p : Product) → Yields c k material rows p → FitsPlan exec_plan p
unfolding files_of
fits_exec c k material rows p y = record { writes = ap (map (λ w. w.which)) y.writes; text = ap is_some y.text }

module _ (agents : Agents) where
  pub plans_exec : Plans (exec_job agents) exec_plan.reads exec_plan
  unfolding Plans exec_job accepted_job inputs_job keys_job encryptions_job
  plans_exec = (refl, (λ s u. (refl, (λ v. (refl, (λ k. (refl, (λ material p left h. fits_exec h.circuit k material v.rows p h.yields))))))))

  pub tells_exec : Tells (exec_job agents)
  unfolding Tells exec_job accepted_job inputs_job keys_job encryptions_job
  tells_exec = (
    one_source,
    λ s. (
      (λ x y h k. refl),
      λ u. (
        (λ text v w hv hw. ap values_of (hv.rows ∙ sym hw.rows)),
        λ v. (keys_alone (source_preset s) (source_keys s), λ k. (encryptions_alone (source_preset s) (length (input_shapes s)), λ material. tt)),
      ),
    ),
  )
