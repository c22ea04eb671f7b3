-- pair SRC IN IN2 KMAT EMAT CIR SEC EVA CTS RES: its plan and its job.
use Rattle.std.specs.Prelude.{true, List, [], ◌∷◌}
use Rattle.heco_circuit.specs.Plans.{Plan as Circuit}
use Rattle.heco_good.specs.Accepted.{IsAccepted}
use Rattle.heco_good.specs.Compiled.{IsPassedOf}
use Rattle.heco_headline.specs.Headline.{IsPlainText}
use Rattle.heco_headline.specs.Pair.{first_text, second_text}
use Rattle.heco_material.specs.KeyLists.{KeyLists}
use Rattle.heco_material.specs.declared.words.EncRow.{EncRow}
use Rattle.heco_nums.specs.declared.shape.Values.{Values}
use Rattle.heco_sources.specs.Inputs.{IsInput}
use Rattle.heco_sources.specs.Sources.{IsSource}
use Rattle.heco_syntax.specs.declared.tree.Source.{Source}
use Rattle.heco_jobs.specs.Agents.{Agents}
use Rattle.heco_jobs.specs.Jobs.{Job, Read, Judge, Give}
use Rattle.heco_jobs.specs.Plans.{Plan}
use Rattle.heco_jobs.specs.declared.product.Product.{Product}
use Rattle.heco_reads.specs.SourceFiles.{IsSourceRefusal, IsValuesRefusal, IsSecondRefusal}
use Rattle.heco_tasks.specs.Executions.{IsCompileRefusal}
use Rattle.heco_tasks.specs.Running.{Leads}
use Rattle.heco_exec.specs.ExecTask.{IsKeyMaterialOf, IsNoKeyMaterialIn, IsEncryptionMaterialOf, IsNoEncryptionMaterialIn}
use Rattle.heco_pair.specs.Chain.{YieldsPair}

abbrev pub pair_plan : Plan
pair_plan = record { reads = 1 ∷ 2 ∷ 3 ∷ 4 ∷ 5 ∷ []; writes = 6 ∷ 7 ∷ 8 ∷ 9 ∷ 10 ∷ []; prints = true }

-- ---- what is given

-- what the passes make of one of the source's circuits, and how they are left; its files and its text, whose parts are those of
-- the source's execution on the values of either row; and the picker is left where its run leads it
pub record Pairs (agents : Agents) (s : Source) (v w : Values) (k : KeyLists) (material : List EncRow) (p : Product) (left : Agents) : Type 0 where
  pub circuit : Circuit
  pub of_source : IsPassedOf s agents.passes circuit left.passes
  pub yields : YieldsPair circuit k material v.rows w.rows p
  pub first : IsPlainText s v.rows (first_text circuit k material v.rows w.rows)
  pub second : IsPlainText s w.rows (second_text circuit k material v.rows w.rows)
  pub leads : Leads circuit agents.picker left.picker

-- ---- the job

unfoldable pub encryptions_job : Agents → Source → Values → Values → KeyLists → Job
encryptions_job agents s v w k =
    Read 5 (List EncRow) (IsEncryptionMaterialOf s) (IsNoEncryptionMaterialIn 5 s) (λ material. Give (Pairs agents s v w k material))

unfoldable pub keys_job : Agents → Source → Values → Values → Job
keys_job agents s v w = Read 4 KeyLists (IsKeyMaterialOf s) (IsNoKeyMaterialIn 4 s) (encryptions_job agents s v w)

-- the second text is read as the first one is, and refused by names of its own
unfoldable pub second_job : Agents → Source → Values → Job
second_job agents s v = Read 3 Values (IsInput s) (IsSecondRefusal s) (keys_job agents s v)

unfoldable pub first_job : Agents → Source → Job
first_job agents s = Read 2 Values (IsInput s) (IsValuesRefusal s) (second_job agents s)

-- the source is judged wholly before its inputs are read
unfoldable pub accepted_job : Agents → Source → Job
accepted_job agents s = Judge (Unit {0}) (λ _. IsAccepted s) (IsCompileRefusal s) (λ _. first_job agents s)

unfoldable pub pair_job : Agents → Job
pair_job agents = Read 1 Source IsSource IsSourceRefusal (accepted_job agents)
