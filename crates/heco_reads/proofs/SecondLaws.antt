-- A second text of inputs is read as a first one is, and refused by names of its own.
use Rattle.std.proofs.Common.{ℕ, List, Ok, Err}
use Rattle.heco_nums.specs.declared.shape.Shape.{Shape}
use Rattle.heco_nums.specs.declared.shape.Values.{Values}
use Rattle.heco_outside.specs.declared.store.Call.{Call}
use Rattle.heco_outside.specs.declared.store.Store as store
use Rattle.heco_texts.specs.Answers.{IsRead}
use Rattle.heco_jobs.specs.Laws.{IsFault}
use Rattle.heco_jobs.specs.Outsides.{Files}
use Rattle.heco_jobs.specs.Stages.{IsReadCause, IsThingRead, ReadsThing}
use Rattle.heco_jobs.specs.declared.outcome.Outcome.{Outcome}
use Rattle.heco_jobs.specs.declared.outcome.Outcome.TheVariants.{Ok as Fine, Refused, ReadFault, WriteFault, Memory}
use Rattle.heco_jobs.specs.declared.outcome.Refusal.TheVariants.{InputLong, InputAt, InputMissing}
use Rattle.heco_reads.specs.SourceFiles.{IsTextRefusal, IsSecondTextRefusal, second_answer}

second_cause : (which before now : ℕ) (o : Outcome) → IsReadCause which before now o → IsReadCause which before now (second_answer o)
second_cause which before now (ReadFault k) h = h
second_cause which before now (WriteFault k) h = h
second_cause which before now (Refused InputLong) h = tt
second_cause which before now (Refused (InputAt rule line)) h = tt
second_cause which before now (Refused (InputMissing k)) h = tt
second_cause which before now (Refused r) h = h
second_cause which before now Fine h = h
second_cause which before now Memory h = h

-- a fault stays one, and nothing else becomes one
second_fault : (o : Outcome) → (IsFault {T = Values} (Err (second_answer o)) → IsFault {T = Values} (Err o)) × (IsFault {T = Values} (Err o) → IsFault {T = Values} (Err (second_answer o)))
second_fault (ReadFault k) = ((λ h. h), (λ h. h))
second_fault (WriteFault k) = ((λ h. h), (λ h. h))
second_fault (Refused InputLong) = ((λ h. h), (λ h. h))
second_fault (Refused (InputAt rule line)) = ((λ h. h), (λ h. h))
second_fault (Refused (InputMissing k)) = ((λ h. h), (λ h. h))
second_fault (Refused r) = ((λ h. h), (λ h. h))
second_fault Fine = ((λ h. h), (λ h. h))
second_fault Memory = ((λ h. h), (λ h. h))

module _ (words : List (List ℕ)) (which t : ℕ) (shapes : List Shape) where
  second_told : (file : Files) (calls calls' : List Call) (o : Outcome) → ReadsThing words which (IsRead t shapes) (IsTextRefusal t shapes) file calls calls' (Err o)
      → ReadsThing words which (IsRead t shapes) (IsSecondTextRefusal t shapes) file calls calls' (Err (second_answer o))
  second_told file calls calls' (ReadFault k) h = h
  second_told file calls calls' (WriteFault k) h = h
  second_told file calls calls' (Refused InputLong) h = h
  second_told file calls calls' (Refused (InputAt rule line)) h = h
  second_told file calls calls' (Refused (InputMissing k)) h = h
  second_told file calls calls' (Refused r) h = absurd h.1.1.1.0
  second_told file calls calls' Fine h = h
  second_told file calls calls' Memory h = h

  module _ {S : Type 0} (s : store.Ghosts S) (old new : S) where
    pub second_refused : (o : Outcome) → IsThingRead s words which (IsRead t shapes) (IsTextRefusal t shapes) old new (Err o)
        → IsThingRead s words which (IsRead t shapes) (IsSecondTextRefusal t shapes) old new (Err (second_answer o))
    second_refused o read = record {
      later = read.later;
      cause = second_cause which (s.faults old) (s.faults new) o read.cause;
      files = read.files;
      told = λ tells. second_told (s.file old) (s.calls old) (s.calls new) o (read.told tells);
      steady = λ steady. let u = read.steady steady in record { stays = u.stays; only = λ fault. u.only ((second_fault o).0 fault); quiet = λ none. u.quiet (λ fault. none ((second_fault o).1 fault)) };
    }

    pub second_given : (v : Values) → IsThingRead s words which (IsRead t shapes) (IsTextRefusal t shapes) old new (Ok v) → IsThingRead s words which (IsRead t shapes) (IsSecondTextRefusal t shapes) old new (Ok v)
    second_given v read = record { later = read.later; cause = tt; files = read.files; told = read.told; steady = read.steady }
