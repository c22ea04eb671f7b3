-- What follows of the job of `exec`.
use Rattle.std.specs.Prelude.{◌≡◌, ℕ, true, List, [], ◌∷◌, ◌++◌, map}
use Rattle.heco_material.specs.KeyLists.{KeyLists}
use Rattle.heco_material.specs.declared.words.EncRow.{EncRow}
use Rattle.heco_nums.specs.declared.shape.Values.{Values}
use Rattle.heco_nums.specs.PresetRows.{preset_of}
use Rattle.heco_run_laws.specs.Messages.{input_message}
use Rattle.heco_syntax.specs.declared.tree.Source.{Source}
use Rattle.heco_peep.specs.Rules.{Handed}
use Rattle.heco_jobs.specs.Agents.{Agents}
use Rattle.heco_jobs.specs.Done.{Done}
use Rattle.heco_jobs.specs.Laws.{IsClear, HasFiles}
use Rattle.heco_jobs.specs.Outsides.{Files, Outside}
use Rattle.heco_jobs.specs.Words.{are_distinct, name_of}
use Rattle.heco_tasks.specs.MeasuredFiles.{HoldChainFiles}
use Rattle.heco_exec.specs.ExecTask.{exec_job}
use Rattle.heco_exec.specs.Headline.{AreApart, AreGiven, IsExecuted}

-- standard output grew by a text of which, and of the files, all of the headline holds
pub record PrintsExecuted (words : List (List ℕ)) (handed left : List Handed) (old new : Outside) : Type 0 where
  pub text : List ℕ
  pub printed : new.taken ≡ old.taken ++ text
  pub executed : IsExecuted words handed left old.file new.file text

-- where the job of `exec` is done and no two of the written words have one name, the headline holds
abbrev pub DoneIsExecuted : Type 0
DoneIsExecuted =
    (words : List (List ℕ)) (agents left : Agents) (old new : Outside) → AreApart words (5 ∷ 6 ∷ 7 ∷ 8 ∷ 9 ∷ [])
    → Done words (exec_job agents) left old new → PrintsExecuted words agents.passes left.passes old new

-- which is so where the nine file words differ
abbrev pub DistinctAreApart : Type 0
DistinctAreApart =
    (command source inputs keys material circuit secret evaluation ciphertexts results : List ℕ)
    → are_distinct (source ∷ inputs ∷ keys ∷ material ∷ circuit ∷ secret ∷ evaluation ∷ ciphertexts ∷ results ∷ []) ≡ true
    → AreApart (command ∷ source ∷ inputs ∷ keys ∷ material ∷ circuit ∷ secret ∷ evaluation ∷ ciphertexts ∷ results ∷ []) (5 ∷ 6 ∷ 7 ∷ 8 ∷ 9 ∷ [])

-- where a source that is accepted, values of its inputs and material within bounds for it are given, no refusal is due, and all files are there
abbrev pub GivenIsReady : Type 0
GivenIsReady =
    (words : List (List ℕ)) (agents : Agents) (file : Files) (source : Source) (values : Values) (keys : KeyLists) (material : List EncRow)
    → AreGiven words file source values keys material
    → IsClear words (exec_job agents) file × HasFiles words (exec_job agents) file

-- the circuit, both keys and the encrypted inputs that it has written are files of one chain, so that `measure` prints no noise of them above its bound
abbrev pub ExecutedFilesAreOfOneChain : Type 0
ExecutedFilesAreOfOneChain =
    (words : List (List ℕ)) (command : List ℕ) (file file' : Files) (printed : List ℕ) (handed left : List Handed)
    (e : IsExecuted words handed left file file' printed)
    → HoldChainFiles (command ∷ name_of words 5 ∷ name_of words 6 ∷ name_of words 7 ∷ name_of words 8
    ∷ []) file' e.circuit e.keys e.material (map (input_message (preset_of e.circuit.preset)) e.values.rows)
