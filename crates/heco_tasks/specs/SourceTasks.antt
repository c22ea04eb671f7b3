-- What is done with a source: the plan and the job of each command that reads one first.
use Rattle.std.specs.Prelude.{◌≡◌, true, false, [], ◌∷◌}
use Rattle.heco_circuit.specs.CircuitFormat.{circuit_text}
use Rattle.heco_circuit.specs.Plans.{Plan as Circuit}
use Rattle.heco_good.specs.Accepted.{IsAccepted}
use Rattle.heco_good.specs.Compiled.{IsPassedOf}
use Rattle.heco_nums.specs.declared.shape.Values.{Values}
use Rattle.heco_sources.specs.Inputs.{output_shapes, IsInput}
use Rattle.heco_sources.specs.Sources.{IsSource}
use Rattle.heco_syntax.specs.declared.tree.Source.{Source}
use Rattle.heco_texts.specs.Outputs.{output_text}
use Rattle.heco_jobs.specs.Agents.{Agents, asking_none}
use Rattle.heco_jobs.specs.Jobs.{Job, Read, Judge, Give}
use Rattle.heco_jobs.specs.Plans.{Plan}
use Rattle.heco_jobs.specs.Products.{Prints, Stores, planned}
use Rattle.heco_jobs.specs.declared.product.Product.{Product}
use Rattle.heco_reads.specs.SourceFiles.{IsSourceRefusal, IsValuesRefusal}
use Rattle.heco_tasks.specs.Executions.{AreOutputs, IsExecutionRefusal, IsCompileRefusal}

-- ---- plain SRC IN

abbrev pub plain_plan : Plan
plain_plan = record { reads = 1 ∷ 2 ∷ []; writes = []; prints = true }

-- the source is executed, and its outputs are printed
unfoldable pub outputs_job : Agents → Source → Values → Job
outputs_job agents s v =
    Judge Values (AreOutputs s v.rows) (IsExecutionRefusal s v.rows) (λ out. Give (asking_none agents (Prints (output_text (output_shapes s) out.rows))))

-- the values are read as those of its inputs
unfoldable pub values_job : Agents → Source → Job
values_job agents s = Read 2 Values (IsInput s) (IsValuesRefusal s) (outputs_job agents s)

unfoldable pub plain_job : Agents → Job
plain_job agents = Read 1 Source IsSource IsSourceRefusal (values_job agents)

-- ---- compile SRC CIR

abbrev pub compile_plan : Plan
compile_plan = record { reads = 1 ∷ []; writes = 2 ∷ []; prints = false }

-- the file of what the passes make of one of the source's circuits is written, the passes are left so, and the picker as it was
pub record Compiles (agents : Agents) (s : Source) (p : Product) (left : Agents) : Type 0 where
  pub circuit : Circuit
  pub of_source : IsPassedOf s agents.passes circuit left.passes
  pub picker : left.picker ≡ agents.picker
  pub stores : Stores (planned 2 (circuit_text circuit) ∷ []) p

-- the source is accepted, which is judged, and one of its circuits is written, which is chosen
unfoldable pub accepted_job : Agents → Source → Job
accepted_job agents s = Judge (Unit {0}) (λ _. IsAccepted s) (IsCompileRefusal s) (λ _. Give (Compiles agents s))

unfoldable pub compile_job : Agents → Job
compile_job agents = Read 1 Source IsSource IsSourceRefusal (accepted_job agents)
