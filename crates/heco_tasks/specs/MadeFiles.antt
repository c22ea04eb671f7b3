-- Files that `keys` and `encrypt` made for a circuit, as `run` finds them.
use Rattle.std.specs.Prelude.{◌≡◌, ℕ, List, Some}
use Rattle.heco_circuit.specs.CircuitFormat.{circuit_text}
use Rattle.heco_circuit.specs.Plans.{Plan as Circuit}
use Rattle.heco_end_to_end.specs.EndToEnd.{IsRunnable}
use Rattle.heco_material.specs.KeyLists.{KeyLists}
use Rattle.heco_material.specs.declared.words.EncRow.{EncRow}
use Rattle.heco_products.specs.Encrypting.{inputs_file}
use Rattle.heco_products.specs.KeyProducts.{circuit_key, evaluation_file}
use Rattle.heco_nums.specs.PresetRows.{preset_of}
use Rattle.heco_jobs.specs.Agents.{Agents}
use Rattle.heco_jobs.specs.Laws.{IsClear, HasFiles}
use Rattle.heco_jobs.specs.Outsides.{Files}
use Rattle.heco_jobs.specs.Words.{name_of}
use Rattle.heco_tasks.specs.CircuitTasks.{run_job}

-- the first three words hold a valid circuit, the evaluation key that is made for it of this key material, and these values of
-- its inputs, encrypted with that key
pub record HoldMadeFiles (words : List (List ℕ)) (file : Files) (c : Circuit) (k : KeyLists) (material : List EncRow) (rows : List (List ℕ)) : Type 0 where
  pub runnable : IsRunnable (preset_of c.preset) c k material rows
  pub circuit : file (name_of words 1) ≡ Some (circuit_text c)
  pub evaluation : file (name_of words 2) ≡ Some (evaluation_file (preset_of c.preset) c k)
  pub ciphertexts : file (name_of words 3) ≡ Some (inputs_file (preset_of c.preset) (circuit_key (preset_of c.preset) c k) material rows)

-- then `run` refuses none of them, and all that it reads is there, whatever picker it is handed
abbrev pub MadeFilesRun : Type 0
MadeFilesRun =
    (words : List (List ℕ)) (agents : Agents) (file : Files) (c : Circuit) (k : KeyLists) (material : List EncRow) (rows : List (List ℕ))
    → HoldMadeFiles words file c k material rows → IsClear words (run_job agents) file × HasFiles words (run_job agents) file
