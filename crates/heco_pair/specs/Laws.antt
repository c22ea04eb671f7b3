-- What follows of the job of `pair`.
use Rattle.std.specs.Prelude.{◌≡◌, ℕ, true, List, [], ◌∷◌, ◌++◌}
use Rattle.heco_material.specs.KeyLists.{KeyLists}
use Rattle.heco_material.specs.declared.words.EncRow.{EncRow}
use Rattle.heco_nums.specs.declared.shape.Values.{Values}
use Rattle.heco_nums.specs.PresetRows.{preset_of}
use Rattle.heco_run_laws.specs.Carried.{two_row_messages}
use Rattle.heco_syntax.specs.declared.tree.Source.{Source}
use Rattle.heco_peep.specs.Rules.{Handed}
use Rattle.heco_jobs.specs.Agents.{Agents}
use Rattle.heco_jobs.specs.Done.{Done}
use Rattle.heco_jobs.specs.Laws.{IsClear, HasFiles}
use Rattle.heco_jobs.specs.Outsides.{Files, Outside}
use Rattle.heco_jobs.specs.Words.{are_distinct, name_of}
use Rattle.heco_tasks.specs.MeasuredFiles.{HoldChainFiles}
use Rattle.heco_exec.specs.Headline.{AreApart}
use Rattle.heco_pair.specs.Headline.{ArePairGiven, IsPaired}
use Rattle.heco_pair.specs.PairTask.{pair_job}
use Rattle.heco_pair.specs.Texts.{both_texts}

-- standard output grew by two texts with the line of dashes between, of which, and of the files, all of the headline in two rows holds
pub record PrintsPaired (words : List (List ℕ)) (handed left : List Handed) (old new : Outside) : Type 0 where
  pub first : List ℕ
  pub second : List ℕ
  pub printed : new.taken ≡ old.taken ++ both_texts first second
  pub paired : IsPaired words handed left old.file new.file first second

-- where the job of `pair` is done and no two of the written words have one name, the headline in two rows holds
abbrev pub DoneIsPaired : Type 0
DoneIsPaired =
    (words : List (List ℕ)) (agents left : Agents) (old new : Outside) → AreApart words (6 ∷ 7 ∷ 8 ∷ 9 ∷ 10 ∷ [])
    → Done words (pair_job agents) left old new → PrintsPaired words agents.passes left.passes old new

-- which is so where the ten file words differ
abbrev pub DistinctAreApart : Type 0
DistinctAreApart =
    (command source inputs second keys material circuit secret evaluation ciphertexts results : List ℕ)
    → are_distinct (source ∷ inputs ∷ second ∷ keys ∷ material ∷ circuit ∷ secret ∷ evaluation ∷ ciphertexts ∷ results ∷ []) ≡ true
    → AreApart (command ∷ source ∷ inputs ∷ second ∷ keys ∷ material ∷ circuit ∷ secret ∷ evaluation ∷ ciphertexts ∷ results ∷ []) (6 ∷ 7 ∷ 8 ∷ 9 ∷ 10 ∷ [])

-- where a source that is accepted, two texts that give values to its inputs, and material within bounds for it are given, no refusal is due, and all files
-- are there
abbrev pub GivenIsReady : Type 0
GivenIsReady =
    (words : List (List ℕ)) (agents : Agents) (file : Files) (source : Source) (first second : Values) (keys : KeyLists) (material : List EncRow)
    → ArePairGiven words file source first second keys material
    → IsClear words (pair_job agents) file × HasFiles words (pair_job agents) file

-- of two calls that are done: where they agree in SRC and IN they print the same first text, and where they agree in SRC and IN2 the same second text,
-- whatever all other files, the pickers and the passes are
abbrev pub CallsPrintApart : Type 0
CallsPrintApart =
    (words words' : List (List ℕ)) (handed left handed' left' : List Handed) (old new old' new' : Outside)
    (call : PrintsPaired words handed left old new) (other : PrintsPaired words' handed' left' old' new')
    → old.file (name_of words 1) ≡ old'.file (name_of words' 1)
    → (old.file (name_of words 2) ≡ old'.file (name_of words' 2) → call.first ≡ other.first)
    × (old.file (name_of words 3) ≡ old'.file (name_of words' 3) → call.second ≡ other.second)

-- the circuit, both keys and the encrypted inputs that it has written are files of one chain, so that `measure` prints no noise of them above its bound
abbrev pub PairedFilesAreOfOneChain : Type 0
PairedFilesAreOfOneChain =
    (words : List (List ℕ)) (command : List ℕ) (file file' : Files)
    (first_printed second_printed : List ℕ) (handed left : List Handed) (e : IsPaired words handed left file file' first_printed second_printed)
    → HoldChainFiles (command ∷ name_of words 6 ∷ name_of words 7 ∷ name_of words 8 ∷ name_of words 9
    ∷ []) file' e.circuit e.keys e.material (two_row_messages (preset_of e.circuit.preset) e.first.rows e.second.rows)
