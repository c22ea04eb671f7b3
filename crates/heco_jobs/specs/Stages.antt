-- The stages of a job as its code goes through them: the read of a file word, a judgement of what was read, and what is gathered of both.
use Rattle.std.specs.Prelude.{◌≡◌, ◌⊎◌, ◌≤◌, ℕ, List, [], ◌∷◌, ◌++◌, take, Some, None, Result, Ok, Err, IfOk, IfErr, IsTrue}
use Rattle.std.specs.Option.{option_map}
use Rattle.heco_outside.specs.Causes.{Rose, Undisturbed}
use Rattle.heco_outside.specs.declared.store.Call.{Call}
use Rattle.heco_outside.specs.declared.store.Store as store
use Rattle.heco_jobs.specs.declared.outcome.Outcome.{Outcome}
use Rattle.heco_jobs.specs.declared.outcome.Outcome.TheVariants.{Ok as Fine, Refused, ReadFault, WriteFault, Memory}
use Rattle.heco_jobs.specs.declared.outcome.Refusal.{Refusal}
use Rattle.heco_jobs.specs.declared.outcome.Refusal.TheVariants.{Usage}
use Rattle.heco_jobs.specs.declared.product.Product.{Product}
use Rattle.heco_jobs.specs.Agents.{Agents}
use Rattle.heco_jobs.specs.Calls.{done, failed, reading}
use Rattle.heco_jobs.specs.Endings.{Gathers}
use Rattle.heco_jobs.specs.Jobs.{Job}
use Rattle.heco_jobs.specs.Laws.{IsFault, HasFiles, Quietly}
use Rattle.heco_jobs.specs.Outsides.{Files, SameFiles}
use Rattle.heco_jobs.specs.Plans.{Plan, IsGatherCause, FitsPlan}
use Rattle.heco_jobs.specs.Words.{name_of}

-- ---- judging

-- this thing came, or it is refused as none may come, or memory ran out
abbrev pub Settles : {Thing : Type 0} → (Thing → Type 0) → (Refusal → Type 0) → Result Thing Outcome → Type 0
Settles Fits Refuses (Ok x) = Fits x
Settles {Thing} Fits Refuses (Err (Refused r)) = ((x : Thing) → Fits x → ⊥) × Refuses r
Settles Fits Refuses (Err Memory) = Unit {0}
Settles Fits Refuses (Err outcome) = ⊥

-- the bytes are read as this thing, or refused, or memory ran out
abbrev pub Judges : {Thing : Type 0} → (List ℕ → Thing → Type 0) → (List ℕ → Refusal → Type 0) → List ℕ → Result Thing Outcome → Type 0
Judges Fits Refuses text result = Settles (Fits text) (Refuses text) result

-- what was read, seen by view
abbrev pub seen : {X Y : Type 0} → (X → Y) → Result X Outcome → Result Y Outcome
seen view (Ok x) = Ok (view x)
seen view (Err outcome) = Err outcome

-- that it came, whatever it is
abbrev pub came : {X : Type 0} → Result X Outcome → Result (Unit {0}) Outcome
came result = seen (λ x. tt) result

-- ---- a read of a file word

-- a read fault of this word comes only where the count rose; a write fault, Usage and Ok never
abbrev pub IsReadCause : ℕ → ℕ → ℕ → Outcome → Type 0
IsReadCause which before now (ReadFault k) = (k ≡ which) × Rose before now
IsReadCause which before now (WriteFault k) = ⊥
IsReadCause which before now (Refused Usage) = ⊥
IsReadCause which before now Fine = ⊥
IsReadCause which before now outcome = Unit {0}

module _ (words : List (List ℕ)) (which : ℕ) where
  -- at most so many of its bytes
  abbrev pub ReadsBytes : ℕ → Files → List Call → List Call → Result (List ℕ) Outcome → Type 0
  ReadsBytes limit file calls calls' (Ok bytes) = (option_map (take limit) (file (name_of words which)) ≡ Some bytes)
      × (calls' ≡ calls ++ done words (reading which) ∷ [])
  ReadsBytes limit file calls calls' (Err (ReadFault k)) = (k ≡ which) × (calls' ≡ calls ++ failed words (reading which) ∷ [])
  ReadsBytes limit file calls calls' (Err Memory) = calls' ≡ calls
  ReadsBytes limit file calls calls' (Err outcome) = ⊥

  -- the thing that its bytes are read as
  abbrev pub ReadsThing : {Thing : Type 0} → (List ℕ → Thing → Type 0) → (List ℕ → Refusal → Type 0) → Files → List Call → List Call
      → Result Thing Outcome → Type 0
  ReadsThing Fits Refuses file calls calls' (Ok x) = (text : List ℕ)
      × ((file (name_of words which) ≡ Some text) × (Fits text x × (calls' ≡ calls ++ done words (reading which) ∷ [])))
  ReadsThing Fits Refuses file calls calls' (Err (ReadFault k)) = (k ≡ which) × (calls' ≡ calls ++ failed words (reading which) ∷ [])
  ReadsThing {Thing} Fits Refuses file calls calls' (Err (Refused r)) =
      (text : List ℕ) × ((file (name_of words which) ≡ Some text)
      × (((x : Thing) → Fits text x → ⊥) × (Refuses text r × (calls' ≡ calls ++ done words (reading which) ∷ []))))
  ReadsThing Fits Refuses file calls calls' (Err Memory) = (calls' ≡ calls) ⊎ (calls' ≡ calls ++ done words (reading which) ∷ [])
  ReadsThing Fits Refuses file calls calls' (Err outcome) = ⊥

module _ {S : Type 0} (s : store.Ghosts S) (words : List (List ℕ)) where
  -- all that holds of a read of this word: the count of faults, the cause of a fault, the files, what was read, and what an undisturbed store answers
  pub record ReadWord {Thing : Type 0} (which : ℕ) (Tells : Files → List Call → List Call → Result Thing Outcome → Type 0)
      (old new : S) (result : Result Thing Outcome) : Type 0 where
    pub later : s.faults old ≤ s.faults new
    pub cause : IfErr result (IsReadCause which (s.faults old) (s.faults new))
    pub files : IsTrue s.tells → SameFiles (s.file old) (s.file new)
    pub told : IsTrue s.tells → Tells (s.file old) (s.calls old) (s.calls new) result
    pub steady : s.steady old → Undisturbed (s.steady new) (IsFault result) (s.file old (name_of words which) ≡ None) (s.faults old) (s.faults new)

  -- the first bytes of the file
  abbrev pub IsBytesRead : ℕ → ℕ → S → S → Result (List ℕ) Outcome → Type 0
  IsBytesRead which limit old new result = ReadWord which (ReadsBytes words which limit) old new result

  -- the thing that the file is read as
  abbrev pub IsThingRead : {Thing : Type 0} → ℕ → (List ℕ → Thing → Type 0) → (List ℕ → Refusal → Type 0) → S → S → Result Thing Outcome → Type 0
  IsThingRead which Fits Refuses old new result = ReadWord which (ReadsThing words which Fits Refuses) old new result

-- ---- what is gathered

-- one of these products, and the agents are left so; or want of memory
abbrev pub Gives : (Product → Agents → Type 0) → Agents → Result Product Outcome → Type 0
Gives Allowed left (Ok p) = Allowed p left
Gives Allowed left (Err Memory) = Unit {0}
Gives Allowed left (Err outcome) = ⊥

-- a refusal, but not Usage, or want of memory
abbrev pub IsMild : Outcome → Type 0
IsMild (Refused Usage) = ⊥
IsMild (Refused r) = Unit {0}
IsMild Memory = Unit {0}
IsMild outcome = ⊥

-- what a job gives that reads no file any more
pub record IsDecided (plan : Plan) (job : Job) (left : Agents) (result : Result Product Outcome) : Type 0 where
  pub mild : IfErr result IsMild
  pub planned : IfOk result (FitsPlan plan)
  pub told : (words : List (List ℕ)) (file : Files) (calls : List Call) → Gathers words job left file calls calls result

-- all that holds of what a job gives: the count of faults, the cause of a fault, the plan, the files, how it came, and what an undisturbed store answers
module _ {S : Type 0} (s : store.Ghosts S) (words : List (List ℕ)) where
  pub record IsGathered (plan : Plan) (job : Job) (left : Agents) (old new : S) (result : Result Product Outcome) : Type 0 where
    pub later : s.faults old ≤ s.faults new
    pub cause : IfErr result (IsGatherCause plan (s.faults old) (s.faults new))
    pub planned : IfOk result (FitsPlan plan)
    pub files : IsTrue s.tells → SameFiles (s.file old) (s.file new)
    pub told : IsTrue s.tells → Gathers words job left (s.file old) (s.calls old) (s.calls new) result
    pub steady : IsTrue s.tells → s.steady old → HasFiles words job (s.file old) → Quietly (s.steady new) (s.faults old) (s.faults new) result
