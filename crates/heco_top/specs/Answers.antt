-- What the words are answered with: what the rest says of jobs, for the command that the words ask for.
use Rattle.std.specs.Prelude.{◌≡◌, ◌++◌, ℕ, false, List, Option, Some, None}
use Rattle.heco_nums.specs.declared.shape.Values.{Values}
use Rattle.heco_sources.specs.Inputs.{output_shapes, IsInput}
use Rattle.heco_sources.specs.Sources.{IsSource}
use Rattle.heco_syntax.specs.declared.tree.Source.{Source}
use Rattle.heco_texts.specs.Outputs.{output_text}
use Rattle.heco_outside.specs.declared.store.Call.{Call}
use Rattle.heco_jobs.specs.Agents.{Agents}
use Rattle.heco_jobs.specs.Done.{Done}
use Rattle.heco_jobs.specs.Endings.{JobEnds}
use Rattle.heco_jobs.specs.Laws.{IsClear, HasFiles, IsUntouched}
use Rattle.heco_jobs.specs.Outsides.{Files, Outside, SameOutside}
use Rattle.heco_jobs.specs.Plans.{IsCause, FollowsSteps, steps_of}
use Rattle.heco_jobs.specs.Words.{name_of}
use Rattle.heco_jobs.specs.declared.outcome.Outcome.{Outcome}
use Rattle.heco_jobs.specs.declared.outcome.Outcome.TheVariants.{Ok as Fine, Refused}
use Rattle.heco_jobs.specs.declared.outcome.Refusal.TheVariants.{Usage}
use Rattle.heco_exec.specs.Laws.{PrintsExecuted}
use Rattle.heco_pair.specs.Laws.{PrintsPaired}
use Rattle.heco_peep.specs.Rules.{Handed}
use Rattle.heco_tasks.specs.Executions.{AreOutputs}
use Rattle.heco_tasks.specs.MeasuredFiles.{PrintsMeasured, PrintsChainWithinBounds}
use Rattle.heco_top.specs.Commands.{command_of, plan_of, job_of, asks, runs_passes}
use Rattle.heco_top.specs.declared.command.Command.{Command}
use Rattle.heco_top.specs.declared.command.Command.TheVariants.{Plain, Measure, Exec, Pair}

-- ---- over whatever outside

abbrev pub CausedFor : Option Command → ℕ → ℕ → ℕ → ℕ → Outcome → Type 0
CausedFor (Some command) faults faults' failures failures' outcome = IsCause (plan_of command) faults faults' failures failures' outcome
CausedFor None faults faults' failures failures' outcome = outcome ≡ Refused Usage

-- a fault names a word that the command reads or writes, or standard output where it prints, and comes only where that count rose
abbrev pub HasCause : List (List ℕ) → ℕ → ℕ → ℕ → ℕ → Outcome → Type 0
HasCause words faults faults' failures failures' outcome = CausedFor (command_of words) faults faults' failures failures' outcome

abbrev pub UntouchedFor : {O : Type 0} → Option Command → Outcome → O → O → Type 0
UntouchedFor (Some command) outcome old new = IsUntouched (plan_of command).prints outcome old new
UntouchedFor None outcome old new = new ≡ old

-- this is as it was after a refusal and a read fault, and wherever the command prints nothing
abbrev pub Untouched : {O : Type 0} → List (List ℕ) → Outcome → O → O → Type 0
Untouched words outcome old new = UntouchedFor (command_of words) outcome old new

abbrev pub PickerLeftFor : {P : Type 0} → Option Command → Outcome → P → P → Type 0
PickerLeftFor (Some command) outcome old new = IsUntouched (asks command) outcome old new
PickerLeftFor None outcome old new = new ≡ old

-- the picker is as it was after a refusal and a read fault, and wherever the command doesn't ask it
abbrev pub PickerLeft : {P : Type 0} → List (List ℕ) → Outcome → P → P → Type 0
PickerLeft words outcome old new = PickerLeftFor (command_of words) outcome old new

abbrev pub PassesLeftFor : {P : Type 0} → Option Command → P → P → Type 0
PassesLeftFor (Some command) old new = runs_passes command ≡ false → new ≡ old
PassesLeftFor None old new = new ≡ old

-- the passes are as they were wherever the command runs none
abbrev pub PassesLeft : {P : Type 0} → List (List ℕ) → P → P → Type 0
PassesLeft words old new = PassesLeftFor (command_of words) old new

-- ---- over an outside that tells

module _ (words : List (List ℕ)) where
  abbrev pub EndsFor : Option Command → Agents → Agents → Outside → Outside → Outcome → Type 0
  EndsFor (Some command) agents left old new outcome = JobEnds words (job_of agents command) left old new outcome
  EndsFor None agents left old new outcome = (outcome ≡ Refused Usage) × SameOutside old new

  -- the job of the command ended so; where the words ask for none, nothing is touched
  abbrev pub Ends : Agents → Agents → Outside → Outside → Outcome → Type 0
  Ends agents left old new outcome = EndsFor (command_of words) agents left old new outcome

  abbrev pub FollowsFor : Option Command → List Call → List Call → Outcome → Type 0
  FollowsFor (Some command) calls calls' outcome = FollowsSteps words (steps_of (plan_of command)) calls calls' outcome
  FollowsFor None calls calls' outcome = calls' ≡ calls

  -- the calls grew by the first of the planned calls
  abbrev pub FollowsPlan : Outside → Outside → Outcome → Type 0
  FollowsPlan old new outcome = FollowsFor (command_of words) old.calls new.calls outcome

  abbrev pub DoneFor : Option Command → Agents → Agents → Outside → Outside → Outcome → Type 0
  DoneFor (Some command) agents left old new Fine = Done words (job_of agents command) left old new
  DoneFor command agents left old new outcome = Unit {0}

  -- after Ok the job of the command is done
  abbrev pub DoneIfOk : Agents → Agents → Outside → Outside → Outcome → Type 0
  DoneIfOk agents left old new outcome = DoneFor (command_of words) agents left old new outcome

  abbrev pub ClearFor : Option Command → Agents → Files → Type 0
  ClearFor (Some command) agents file = IsClear words (job_of agents command) file
  ClearFor None agents file = ⊥

  -- the words ask for a command, and no refusal of its files is due
  abbrev pub IsClearIn : Agents → Files → Type 0
  IsClearIn agents file = ClearFor (command_of words) agents file

  abbrev pub ReadyFor : Option Command → Agents → Files → Type 0
  ReadyFor (Some command) agents file = IsClear words (job_of agents command) file × HasFiles words (job_of agents command) file
  ReadyFor None agents file = ⊥

  -- and the files that the command reads are there
  abbrev pub IsReadyIn : Agents → Files → Type 0
  IsReadyIn agents file = ReadyFor (command_of words) agents file

  -- ---- what `plain` prints

  -- whatever source and values the two files hold, this is the text of the lists that the execution gives
  abbrev pub IsPlainText : Files → List ℕ → Type 0
  IsPlainText file printed =
      (source input : List ℕ) (s : Source) (v out : Values) → file (name_of words 1) ≡ Some source → IsSource source s
      → file (name_of words 2) ≡ Some input → IsInput s input v
      → AreOutputs s v.rows out → printed ≡ output_text (output_shapes s) out.rows

  abbrev pub PrintsFor : Option Command → Outside → Outside → Outcome → Type 0
  PrintsFor (Some Plain) old new Fine = (text : List ℕ) × ((new.taken ≡ old.taken ++ text) × IsPlainText old.file text)
  PrintsFor command old new outcome = Unit {0}

  -- after Ok of `plain` standard output grew by that text
  abbrev pub PrintsPlain : Outside → Outside → Outcome → Type 0
  PrintsPlain old new outcome = PrintsFor (command_of words) old new outcome

  -- ---- the headline

  abbrev pub ExecutedFor : Option Command → List Handed → List Handed → Outside → Outside → Outcome → Type 0
  ExecutedFor (Some Exec) handed left old new Fine = PrintsExecuted words handed left old new
  ExecutedFor command handed left old new outcome = Unit {0}

  -- after Ok of `exec` the files and the passes are as the headline says, and standard output grew by the text of which it speaks
  abbrev pub PrintsExec : List Handed → List Handed → Outside → Outside → Outcome → Type 0
  PrintsExec handed left old new outcome = ExecutedFor (command_of words) handed left old new outcome

  abbrev pub PairedFor : Option Command → List Handed → List Handed → Outside → Outside → Outcome → Type 0
  PairedFor (Some Pair) handed left old new Fine = PrintsPaired words handed left old new
  PairedFor command handed left old new outcome = Unit {0}

  -- after Ok of `pair` the same of two rows of values, with a text for each
  abbrev pub PrintsPair : List Handed → List Handed → Outside → Outside → Outcome → Type 0
  PrintsPair handed left old new outcome = PairedFor (command_of words) handed left old new outcome

  -- ---- measured noise

  abbrev pub MeasuredFor : Option Command → Outside → Outside → Outcome → Type 0
  MeasuredFor (Some Measure) old new Fine = PrintsMeasured words old new
  MeasuredFor command old new outcome = Unit {0}

  -- after Ok of `measure` standard output grew by the lines of what its files were read as
  abbrev pub PrintsMeasure : Outside → Outside → Outcome → Type 0
  PrintsMeasure old new outcome = MeasuredFor (command_of words) old new outcome

  abbrev pub WithinFor : Option Command → Outside → Outside → Outcome → Type 0
  WithinFor (Some Measure) old new Fine = PrintsChainWithinBounds words old new
  WithinFor command old new outcome = Unit {0}

  -- after Ok of `measure` on the files of one chain no noise that was printed is above its bound
  abbrev pub PrintsWithinBounds : Outside → Outside → Outcome → Type 0
  PrintsWithinBounds old new outcome = WithinFor (command_of words) old new outcome
