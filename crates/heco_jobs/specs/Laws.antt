-- What follows of every job, in words: what stands, and completeness.
use Rattle.std.specs.Prelude.{◌≡◌, ◌⊎◌, ℕ, Bool, false, List, Some, Result, Ok, Err}
use Rattle.heco_outside.specs.Causes.{Rose}
use Rattle.heco_jobs.specs.declared.outcome.Outcome.{Outcome}
use Rattle.heco_jobs.specs.declared.outcome.Outcome.TheVariants.{Ok as Fine, Refused, ReadFault, WriteFault, Memory}
use Rattle.heco_jobs.specs.Jobs.{Job, Read, Judge, Give}
use Rattle.heco_jobs.specs.Outsides.{Files, SameFiles, Outside}
use Rattle.heco_jobs.specs.Words.{name_of}

-- ---- what stands

-- a refusal and a read fault leave every file and standard output; a failed write leaves standard output, and want of memory too unless the sink found none
abbrev pub Stands : Outside → Outside → Outcome → Type 0
Stands old new (Refused r) = SameFiles old.file new.file × (new.taken ≡ old.taken)
Stands old new (ReadFault k) = SameFiles old.file new.file × (new.taken ≡ old.taken)
Stands old new (WriteFault k) = (k ≡ 0) ⊎ (new.taken ≡ old.taken)
Stands old new Memory = (new.taken ≡ old.taken) ⊎ Rose old.shortages new.shortages
Stands old new Fine = Unit {0}

-- this is as it was after a refusal and a read fault
abbrev pub IsLeft : {O : Type 0} → Outcome → O → O → Type 0
IsLeft (Refused r) old new = new ≡ old
IsLeft (ReadFault k) old new = new ≡ old
IsLeft outcome old new = Unit {0}

-- standard output itself is left so, and wherever the command prints nothing
abbrev pub IsUntouched : {O : Type 0} → Bool → Outcome → O → O → Type 0
IsUntouched prints outcome old new = IsLeft outcome old new × (prints ≡ false → new ≡ old)

-- ---- completeness

module _ (words : List (List ℕ)) where
  -- no refusal is due: each file that is there can be read as something, and something comes of what was read
  unfoldable pub IsClear : Job → Files → Type 0
  IsClear (Read which Thing Fits Refuses next) file =
      (text : List ℕ) → file (name_of words which) ≡ Some text → ((x : Thing) × Fits text x) × ((x : Thing) → Fits text x → IsClear (next x) file)
  IsClear (Judge Thing Fits Refuses next) file = ((x : Thing) × Fits x) × ((x : Thing) → Fits x → IsClear (next x) file)
  IsClear (Give Allowed) file = Unit {0}

  -- the files that the job reads are there
  unfoldable pub HasFiles : Job → Files → Type 0
  HasFiles (Read which Thing Fits Refuses next) file =
      (text : List ℕ) × ((file (name_of words which) ≡ Some text) × ((x : Thing) → Fits text x → HasFiles (next x) file))
  HasFiles (Judge Thing Fits Refuses next) file = (x : Thing) → Fits x → HasFiles (next x) file
  HasFiles (Give Allowed) file = Unit {0}

abbrev pub IsReadFault : Outcome → Type 0
IsReadFault (ReadFault k) = Unit {0}
IsReadFault outcome = ⊥

-- it ended with a read fault
abbrev pub IsFault : {T : Type 0} → Result T Outcome → Type 0
IsFault (Ok v) = ⊥
IsFault (Err outcome) = IsReadFault outcome

-- the outside is still undisturbed, nothing was answered with a read fault, and the count stayed
pub record Quietly {T : Type 0} (still : Type 0) (before now : ℕ) (result : Result T Outcome) : Type 0 where
  pub stays : still
  pub no_fault : ¬ IsFault result
  pub same : now ≡ before

abbrev pub IsOkOrMemory : Outcome → Type 0
IsOkOrMemory Fine = Unit {0}
IsOkOrMemory Memory = Unit {0}
IsOkOrMemory outcome = ⊥

-- done unless memory ran out, and the count stayed
abbrev pub Calmly : ℕ → ℕ → Outcome → Type 0
Calmly before now outcome = IsOkOrMemory outcome × (now ≡ before)

abbrev pub IsNoFault : Outcome → Type 0
IsNoFault (ReadFault k) = ⊥
IsNoFault (WriteFault k) = ⊥
IsNoFault outcome = Unit {0}
