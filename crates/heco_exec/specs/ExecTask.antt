-- exec SRC IN KMAT EMAT CIR SEC EVA CTS RES: its plan and its job.
use Rattle.std.specs.Prelude.{ℕ, true, List, [], ◌∷◌, length}
use Rattle.heco_circuit.specs.Plans.{Plan as Circuit}
use Rattle.heco_good.specs.Accepted.{IsAccepted}
use Rattle.heco_good.specs.Compiled.{IsPassedOf}
use Rattle.heco_good.specs.Good.{preset_named}
use Rattle.heco_headline.specs.Exec.{source_keys, text_of}
use Rattle.heco_headline.specs.Headline.{IsPlainText}
use Rattle.heco_material.specs.KeyLists.{KeyLists}
use Rattle.heco_material.specs.declared.words.EncRow.{EncRow}
use Rattle.heco_nums.specs.declared.preset.Preset.{Preset}
use Rattle.heco_nums.specs.declared.shape.Values.{Values}
use Rattle.heco_nums.specs.PresetRows.{preset_of}
use Rattle.heco_sources.specs.Inputs.{input_shapes, IsInput}
use Rattle.heco_sources.specs.Sources.{IsSource}
use Rattle.heco_syntax.specs.declared.tree.Source.{Source}
use Rattle.heco_jobs.specs.Agents.{Agents}
use Rattle.heco_jobs.specs.Jobs.{Job, Read, Judge, Give}
use Rattle.heco_jobs.specs.Plans.{Plan}
use Rattle.heco_jobs.specs.declared.outcome.Refusal.{Refusal}
use Rattle.heco_jobs.specs.declared.product.Product.{Product}
use Rattle.heco_reads.specs.MaterialFiles.{SpellsKeys, IsKeysRefusal, SpellsEncryptions, IsEncryptionsRefusal}
use Rattle.heco_reads.specs.SourceFiles.{IsSourceRefusal, IsValuesRefusal}
use Rattle.heco_tasks.specs.Executions.{IsCompileRefusal}
use Rattle.heco_tasks.specs.Running.{Leads}
use Rattle.heco_exec.specs.Chain.{Yields}

abbrev pub exec_plan : Plan
exec_plan = record { reads = 1 ∷ 2 ∷ 3 ∷ 4 ∷ []; writes = 5 ∷ 6 ∷ 7 ∷ 8 ∷ 9 ∷ []; prints = true }

-- ---- material, which the source alone decides how to read: never the circuit that is chosen for it

-- the preset that the source names
abbrev pub source_preset : Source → Preset
source_preset s = preset_of (preset_named s)

-- key material for the switch keys of its written form
abbrev pub IsKeyMaterialOf : Source → List ℕ → KeyLists → Type 0
IsKeyMaterialOf s text k = SpellsKeys (source_preset s) (source_keys s) text k

abbrev pub IsNoKeyMaterialIn : ℕ → Source → List ℕ → Refusal → Type 0
IsNoKeyMaterialIn which s text refusal = IsKeysRefusal which (source_preset s) (source_keys s) text refusal

abbrev pub IsNoKeyMaterialOf : Source → List ℕ → Refusal → Type 0
IsNoKeyMaterialOf s text refusal = IsNoKeyMaterialIn 3 s text refusal

-- encryption material for its inputs
abbrev pub IsEncryptionMaterialOf : Source → List ℕ → List EncRow → Type 0
IsEncryptionMaterialOf s text material = SpellsEncryptions (source_preset s) (length (input_shapes s)) text material

abbrev pub IsNoEncryptionMaterialIn : ℕ → Source → List ℕ → Refusal → Type 0
IsNoEncryptionMaterialIn which s text refusal = IsEncryptionsRefusal which (source_preset s) (length (input_shapes s)) text refusal

abbrev pub IsNoEncryptionMaterialOf : Source → List ℕ → Refusal → Type 0
IsNoEncryptionMaterialOf s text refusal = IsNoEncryptionMaterialIn 4 s text refusal

-- ---- what is given

-- what the passes make of one of the source's circuits, and how they are left; its files and its text, which is that of the
-- source's execution too; and the picker is left where its run leads it
pub record Executes (agents : Agents) (s : Source) (v : Values) (k : KeyLists) (material : List EncRow) (p : Product) (left : Agents) : Type 0 where
  pub circuit : Circuit
  pub of_source : IsPassedOf s agents.passes circuit left.passes
  pub yields : Yields circuit k material v.rows p
  pub plain : IsPlainText s v.rows (text_of circuit k material v.rows)
  pub leads : Leads circuit agents.picker left.picker

-- ---- the job

unfoldable pub encryptions_job : Agents → Source → Values → KeyLists → Job
encryptions_job agents s v k = Read 4 (List EncRow) (IsEncryptionMaterialOf s) (IsNoEncryptionMaterialOf s) (λ material. Give (Executes agents s v k material))

unfoldable pub keys_job : Agents → Source → Values → Job
keys_job agents s v = Read 3 KeyLists (IsKeyMaterialOf s) (IsNoKeyMaterialOf s) (encryptions_job agents s v)

unfoldable pub inputs_job : Agents → Source → Job
inputs_job agents s = Read 2 Values (IsInput s) (IsValuesRefusal s) (keys_job agents s)

-- the source is judged wholly before its inputs are read
unfoldable pub accepted_job : Agents → Source → Job
accepted_job agents s = Judge (Unit {0}) (λ _. IsAccepted s) (IsCompileRefusal s) (λ _. inputs_job agents s)

unfoldable pub exec_job : Agents → Job
exec_job agents = Read 1 Source IsSource IsSourceRefusal (accepted_job agents)
