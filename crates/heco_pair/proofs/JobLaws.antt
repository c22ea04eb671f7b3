-- The job of `pair` reads the words of its plan in order and gives what is planned, and each file can be read as one thing alone.
use Rattle.std.proofs.Common.{◌≡◌, ◌∙◌, ℕ, List, refl, sym, ap, map, length}
use Rattle.std.specs.Prelude.{is_some}
use Rattle.heco_circuit.specs.Plans.{Plan as Circuit}
use Rattle.heco_headline.specs.Exec.{source_keys}
use Rattle.heco_headline.specs.Pair.{pair_files}
use Rattle.heco_material.specs.KeyLists.{KeyLists}
use Rattle.heco_material.specs.declared.words.EncRow.{EncRow}
use Rattle.heco_nums.specs.declared.shape.Values.{Values}
use Rattle.heco_sources.proofs.SourceLaws.{one_source}
use Rattle.heco_sources.specs.Inputs.{input_shapes, IsInput}
use Rattle.heco_syntax.specs.declared.tree.Source.{Source}
use Rattle.heco_jobs.specs.Agents.{Agents}
use Rattle.heco_jobs.specs.Plans.{FitsPlan}
use Rattle.heco_jobs.specs.declared.product.Product.{Product}
use Rattle.heco_jobs.proofs.DoneLaws.{Tells}
use Rattle.heco_jobs.proofs.PlanLaws.{Plans}
use Rattle.heco_reads.proofs.MaterialLaws.{keys_alone, encryptions_alone}
use Rattle.heco_exec.specs.ExecTask.{source_preset}
use Rattle.heco_pair.specs.Chain.{YieldsPair}
use Rattle.heco_pair.specs.PairTask.{pair_plan, pair_job, accepted_job, first_job, second_job, keys_job, encryptions_job}

abbrev values_of : List (List ℕ) → Values
values_of rows = record { rows = rows }

-- a text gives a source's inputs one list of values
pub values_alone : (s : Source) (text : List ℕ) (v w : Values) → IsInput s text v → IsInput s text w → v ≡ w
values_alone s text v w hv hw = ap values_of (hv.rows ∙ sym hw.rows)

pub fits_pair : (c : Circuit) (k : KeyLists) (material : List EncRow) (first second : List (List ℕ)) (p : Product) → YieldsPair c k material first second p → FitsPlan pair_plan p
unfolding pair_files
fits_pair c k material first second p y = record { writes = ap (map (λ w. w.which)) y.writes; text = ap is_some y.text }

module _ (agents : Agents) where
  pub plans_pair : Plans (pair_job agents) pair_plan.reads pair_plan
  unfolding Plans pair_job accepted_job first_job second_job keys_job encryptions_job
  plans_pair = (refl, (λ s u. (refl, (λ v. (refl, (λ w. (refl, (λ k. (refl, (λ material p left h. fits_pair h.circuit k material v.rows w.rows p h.yields))))))))))

  pub tells_pair : Tells (pair_job agents)
  unfolding Tells pair_job accepted_job first_job second_job keys_job encryptions_job
  tells_pair = (
    one_source,
    λ s. (
      (λ x y h k. refl),
      λ u. (
        values_alone s,
        λ v. (values_alone s, λ w. (keys_alone (source_preset s) (source_keys s), λ k. (encryptions_alone (source_preset s) (length (input_shapes s)), λ material. tt))),
      ),
    ),
  )
