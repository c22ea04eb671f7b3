-- sample SEED: its plan and its job, which reads nothing.
use Rattle.std.specs.Prelude.{◌≡◌, ℕ, true, [], ◌∷◌, Ok, length}
use Rattle.heco_circuit.specs.Plans.{Plan as Circuit}
use Rattle.heco_eval.specs.Typed.{outputs_of}
use Rattle.heco_good.specs.Compiled.{IsPassedOf}
use Rattle.heco_jobs.specs.Agents.{Agents}
use Rattle.heco_jobs.specs.Jobs.{Job, Give}
use Rattle.heco_jobs.specs.Plans.{Plan}
use Rattle.heco_jobs.specs.Products.{Prints}
use Rattle.heco_jobs.specs.declared.product.Product.{Product}
use Rattle.heco_sample_source.specs.SampleText.{sample_text}
use Rattle.heco_sources.specs.Sources.{IsSource}
use Rattle.heco_syntax.specs.declared.tree.Source.{Source}
use Rattle.heco_tasks.specs.Running.{Leads}
use Rattle.heco_sample.specs.Drawn.{drawn_rows, decrypted_text}
use Rattle.heco_sample.specs.Summary.{value_line, greatest_bound, summary}

abbrev pub sample_plan : Plan
sample_plan = record { reads = []; writes = []; prints = true }

-- what the passes make of one circuit of the source, which is good for it, and how they are left; what the source's execution
-- gives on the drawn values, which is also what decrypting the result of the circuit's run prints; the summary of both, with the
-- circuit's number of gates and greatest bound; and the picker is left where this run leads it
pub record Samples (agents : Agents) (seed : ℕ) (p : Product) (left : Agents) : Type 0 where
  pub source : Source
  pub is : IsSource sample_text source
  pub circuit : Circuit
  pub of_source : IsPassedOf source agents.passes circuit left.passes
  pub value : ℕ
  pub executed : outputs_of source (drawn_rows seed) ≡ Ok ((value ∷ []) ∷ [])
  pub decrypted : decrypted_text circuit seed ≡ value_line value
  pub prints : Prints (summary seed (length circuit.gates) (greatest_bound circuit) (value_line value) (decrypted_text circuit seed)) p
  pub leads : Leads circuit agents.picker left.picker

unfoldable pub sample_job : Agents → ℕ → Job
sample_job agents seed = Give (Samples agents seed)
