-- How a job may end, and what it leaves of the files, of the store's calls and of standard output.
use Rattle.std.specs.Prelude.{◌≡◌, ◌⊎◌, ℕ, List, [], ◌∷◌, ◌++◌, Option, Some, None, Result, Ok, Err}
use Rattle.heco_outside.specs.Calls.{GrowsByPrefix, HasSet}
use Rattle.heco_outside.specs.Causes.{Rose}
use Rattle.heco_outside.specs.declared.store.Call.{Call}
use Rattle.heco_outside.specs.declared.store.StoreErr.{StoreErr}
use Rattle.heco_outside.specs.declared.store.StoreErr.TheVariants as store
use Rattle.heco_outside.specs.declared.sink.SinkErr.{SinkErr}
use Rattle.heco_outside.specs.declared.sink.SinkErr.TheVariants as sink
use Rattle.heco_jobs.specs.declared.outcome.Outcome.{Outcome}
use Rattle.heco_jobs.specs.declared.outcome.Outcome.TheVariants.{Ok as Fine, Refused, ReadFault, WriteFault, Memory}
use Rattle.heco_jobs.specs.declared.outcome.Refusal.{Refusal}
use Rattle.heco_jobs.specs.declared.product.Planned.{Planned}
use Rattle.heco_jobs.specs.declared.product.Product.{Product}
use Rattle.heco_jobs.specs.Agents.{Agents}
use Rattle.heco_jobs.specs.Calls.{done, failed, reading, writing}
use Rattle.heco_jobs.specs.Jobs.{Job, Read, Judge, Give}
use Rattle.heco_jobs.specs.Outsides.{Files, OthersStand, SameFiles, Outside, SameOutside}
use Rattle.heco_jobs.specs.Words.{name_of}

-- standard output behind the print, where the command prints; it is untouched where the command prints nothing
abbrev pub Printed : Option (List ℕ) → List ℕ → List ℕ → ℕ → ℕ → Outcome → Type 0
Printed (Some text) out out' short short' Fine = out' ≡ out ++ text
Printed (Some text) out out' short short' (WriteFault k) = (k ≡ 0) × GrowsByPrefix out out' text
Printed (Some text) out out' short short' Memory = Rose short short' × GrowsByPrefix out out' text
Printed None out out' short short' Fine = out' ≡ out
Printed text out out' short short' outcome = ⊥

-- the outside behind calls of its store, with these files
abbrev pub with_calls : Outside → Files → List Call → Outside
with_calls old file calls = record { file = file; calls = calls; taken = old.taken; shortages = old.shortages }

module _ (words : List (List ℕ)) where
  -- reading and judging: the first fault or refusal ends it, and else one of the allowed products comes, and the agents are left so
  unfoldable pub Gathers : Job → Agents → Files → List Call → List Call → Result Product Outcome → Type 0
  Gathers (Read which Thing Fits Refuses next) left file calls calls' result =
      ((result ≡ Err (ReadFault which)) × (calls' ≡ calls ++ failed words (reading which) ∷ []))
      ⊎ (((result ≡ Err Memory) × ((calls' ≡ calls) ⊎ (calls' ≡ calls ++ done words (reading which) ∷ [])))
      ⊎ ((text : List ℕ) × ((file (name_of words which) ≡ Some text) ×
      ((((x : Thing) → Fits text x → ⊥)
      × ((r : Refusal) × (Refuses text r × ((result ≡ Err (Refused r)) × (calls' ≡ calls ++ done words (reading which) ∷ [])))))
      ⊎ ((x : Thing) × (Fits text x × Gathers (next x) left file (calls ++ done words (reading which) ∷ []) calls' result))))))
  Gathers (Judge Thing Fits Refuses next) left file calls calls' result =
      ((result ≡ Err Memory) × (calls' ≡ calls))
      ⊎ ((((x : Thing) → Fits x → ⊥) × ((r : Refusal) × (Refuses r × ((result ≡ Err (Refused r)) × (calls' ≡ calls)))))
      ⊎ ((x : Thing) × (Fits x × Gathers (next x) left file calls calls' result)))
  Gathers (Give Allowed) left file calls calls' result = (((p : Product) × (Allowed p left × (result ≡ Ok p))) ⊎ (result ≡ Err Memory)) × (calls' ≡ calls)

  -- a write that was not done: nothing is told of its file, all others stand, and nothing is printed
  pub record StopsAt (w : Planned) (old new : Outside) (logged : List Call) : Type 0 where
    pub calls : new.calls ≡ logged
    pub others : OthersStand (name_of words w.which) old.file new.file
    pub taken : new.taken ≡ old.taken

  -- writing: the first fault stops it, earlier files hold their bytes and all others stand; then the text is printed
  unfoldable pub Writes : List Planned → Option (List ℕ) → Outside → Outside → Outcome → Type 0
  Writes [] text old new outcome = SameFiles old.file new.file
      × ((new.calls ≡ old.calls) × Printed text old.taken new.taken old.shortages new.shortages outcome)
  Writes (w ∷ writes) text old new outcome =
      ((outcome ≡ WriteFault w.which) × StopsAt w old new (old.calls ++ failed words (writing w.which) ∷ []))
      ⊎ (((outcome ≡ Memory) × StopsAt w old new old.calls)
      ⊎ ((between : Files) × (HasSet old.file (name_of words w.which) w.bytes between
      × Writes writes text (with_calls old between (old.calls ++ done words (writing w.which) ∷ [])) new outcome)))

  -- what was gathered, and then what was done with it
  abbrev pub EndsAfter : Result Product Outcome → Outside → Outside → Outcome → Type 0
  EndsAfter (Ok p) old new outcome = Writes p.writes p.text old new outcome
  EndsAfter (Err answer) old new outcome = (outcome ≡ answer) × SameOutside old new

  pub record JobEnds (job : Job) (left : Agents) (old new : Outside) (outcome : Outcome) : Type 0 where
    pub gathered : Result Product Outcome
    pub reads : List Call
    pub gathers : Gathers job left old.file old.calls reads gathered
    pub ends : EndsAfter gathered (with_calls old old.file reads) new outcome

-- ---- what a failed call is answered with

abbrev pub read_fault_of : ℕ → StoreErr → Outcome
read_fault_of which store.Failed = ReadFault which
read_fault_of which store.Memory = Memory

abbrev pub write_fault_of : ℕ → StoreErr → Outcome
write_fault_of which store.Failed = WriteFault which
write_fault_of which store.Memory = Memory

abbrev pub print_fault_of : SinkErr → Outcome
print_fault_of sink.Failed = WriteFault 0
print_fault_of sink.Memory = Memory
