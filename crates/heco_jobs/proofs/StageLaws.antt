-- Reading a file word and judging it, and going on with what it was read as.
use Rattle.std.proofs.Common.{◌≡◌, ◌≤◌, ◌∙◌, ℕ, List, take, Option, Some, None, Result, Ok, Err, refl, sym, ap, subst, inl, inr, arith}
use Rattle.std.specs.Prelude.{IfErr, IsTrue}
use Rattle.std.specs.Option.{option_map}
use Rattle.std.proofs.lemmas.Option.{same_Some, none-some}
use Rattle.heco_outside.specs.Causes.{Undisturbed}
use Rattle.heco_outside.specs.declared.store.Call.{Call}
use Rattle.heco_outside.specs.declared.store.Store as store
use Rattle.heco_jobs.specs.declared.outcome.Outcome.{Outcome}
use Rattle.heco_jobs.specs.declared.outcome.Outcome.TheVariants.{Ok as Fine, Refused, ReadFault, WriteFault, Memory}
use Rattle.heco_jobs.specs.declared.outcome.Refusal.{Refusal}
use Rattle.heco_jobs.specs.declared.outcome.Refusal.TheVariants.{Usage}
use Rattle.heco_jobs.specs.declared.product.Product.{Product}
use Rattle.heco_jobs.specs.Agents.{Agents}
use Rattle.heco_jobs.specs.Endings.{Gathers}
use Rattle.heco_jobs.specs.Jobs.{Job, Read, Judge, Give}
use Rattle.heco_jobs.specs.Laws.{IsFault, HasFiles, Quietly}
use Rattle.heco_jobs.specs.Outsides.{Files}
use Rattle.heco_jobs.specs.Plans.{Plan, IsOne, IsGatherCause, FitsPlan}
use Rattle.heco_jobs.specs.Stages.{ReadsBytes, ReadsThing, IsReadCause, Settles, Judges, Gives, IsMild, IsBytesRead, IsThingRead, IsDecided, IsGathered}
use Rattle.heco_jobs.specs.Words.{name_of}

-- files that are the same at each name
pub same_files : (f g : Files) → ((name : List ℕ) → f name ≡ g name) → f ≡ g
same_files f g h = λ i. λ name. h name i

-- ---- the read of a file word

-- the file whose first bytes were read
record Found (file : Option (List ℕ)) (limit : ℕ) (bytes : List ℕ) : Type 0 where
  pub text : List ℕ
  pub there : file ≡ Some text
  pub first : take limit text ≡ bytes

found_by : (file : Option (List ℕ)) (limit : ℕ) (bytes : List ℕ) → option_map (take limit) file ≡ Some bytes → Found file limit bytes
found_by None limit bytes is = absurd (none-some bytes is)
found_by (Some text) limit bytes is = record { text = text; there = refl; first = same_Some (take limit text) bytes is }

-- Usage is no reason to refuse a file
abbrev pub SparesUsage : (List ℕ → Refusal → Type 0) → Type 0
SparesUsage Refuses = (text : List ℕ) → Refuses text Usage → ⊥

module _ {Thing : Type 0} (words : List (List ℕ)) (which : ℕ) (Fits : List ℕ → Thing → Type 0) (Refuses : List ℕ → Refusal → Type 0) (file : Files) where
  -- what was judged of the first bytes, where it holds of the whole file
  judged : (limit : ℕ) (calls calls' : List Call) (bytes : List ℕ) (result : Result Thing Outcome) → ReadsBytes words which limit file calls calls' (Ok bytes)
      → ((text : List ℕ) → take limit text ≡ bytes → Judges Fits Refuses text result) → ReadsThing words which Fits Refuses file calls calls' result
  judged limit calls calls' bytes (Ok x) h j = let f = found_by (file (name_of words which)) limit bytes h.0 in (f.text, (f.there, (j f.text f.first, h.1)))
  judged limit calls calls' bytes (Err (Refused r)) h j = let f = found_by (file (name_of words which)) limit bytes h.0 in let k = j f.text f.first in (f.text, (f.there, (k.0, (k.1, h.1))))
  judged limit calls calls' bytes (Err Memory) h j = inr h.1
  judged limit calls calls' bytes (Err Fine) h j = absurd (j (found_by (file (name_of words which)) limit bytes h.0).text (found_by (file (name_of words which)) limit bytes h.0).first)
  judged limit calls calls' bytes (Err (ReadFault k)) h j = absurd (j (found_by (file (name_of words which)) limit bytes h.0).text (found_by (file (name_of words which)) limit bytes h.0).first)
  judged limit calls calls' bytes (Err (WriteFault k)) h j = absurd (j (found_by (file (name_of words which)) limit bytes h.0).text (found_by (file (name_of words which)) limit bytes h.0).first)

  -- a file that was not read is not judged
  unread : (limit : ℕ) (calls calls' : List Call) (o : Outcome) → ReadsBytes words which limit file calls calls' (Err o) → ReadsThing words which Fits Refuses file calls calls' (Err o)
  unread limit calls calls' (ReadFault k) h = h
  unread limit calls calls' Memory h = inl h
  unread limit calls calls' Fine h = absurd h
  unread limit calls calls' (Refused r) h = absurd h
  unread limit calls calls' (WriteFault k) h = absurd h

  stops : (next : Thing → Job) (left : Agents) (calls calls' : List Call) (o : Outcome) → ReadsThing words which Fits Refuses file calls calls' (Err o) → Gathers words (Read which Thing Fits Refuses next) left file calls calls' (Err o)
  unfolding Gathers
  stops next left calls calls' (ReadFault k) h = inl (ap (λ n. Err (ReadFault n)) h.0, h.1)
  stops next left calls calls' Memory h = inr (inl (refl, h))
  stops next left calls calls' (Refused r) h = inr (inr (h.0, (h.1.0, inl (h.1.1.0, (r, (h.1.1.1.0, (refl, h.1.1.1.1)))))))
  stops next left calls calls' Fine h = absurd h
  stops next left calls calls' (WriteFault k) h = absurd h

  goes_on : (next : Thing → Job) (left : Agents) (calls mid calls' : List Call) (x : Thing) (result : Result Product Outcome) → ReadsThing words which Fits Refuses file calls mid (Ok x) → Gathers words (next x) left file mid calls' result
      → Gathers words (Read which Thing Fits Refuses next) left file calls calls' result
  unfolding Gathers
  goes_on next left calls mid calls' x result h more = inr (inr (h.0, (h.1.0, inr (x, (h.1.1.0, subst (λ cs. Gathers words (next x) left file cs calls' result) h.1.1.1 more)))))

  -- a file that is there is not absent
  not_absent : (next : Thing → Job) → HasFiles words (Read which Thing Fits Refuses next) file → file (name_of words which) ≡ None → ⊥
  unfolding HasFiles
  not_absent next has absent = none-some has.0 (sym absent ∙ has.1.0)

  -- so the read doesn't fail
  read_quietly : (next : Thing → Job) (still : Type 0) (before now : ℕ) (result : Result Thing Outcome) → HasFiles words (Read which Thing Fits Refuses next) file
      → Undisturbed still (IsFault result) (file (name_of words which) ≡ None) before now → Quietly still before now result
  read_quietly next still before now result has u = record {
    stays = u.stays;
    no_fault = λ fault. not_absent next has (u.only fault);
    same = u.quiet (λ fault. not_absent next has (u.only fault));
  }

  -- and the files that are read behind it are there too
  has_next : (next : Thing → Job) (calls calls' : List Call) (x : Thing) → HasFiles words (Read which Thing Fits Refuses next) file → ReadsThing words which Fits Refuses file calls calls' (Ok x) → HasFiles words (next x) file
  unfolding HasFiles
  has_next next calls calls' x has read = has.1.1 x (subst (λ t. Fits t x) (same_Some read.0 has.0 (sym read.1.0 ∙ has.1.0)) read.1.1.0)

-- where the bytes were judged, there was no fault
judged_cause : {Thing : Type 0} (Fits : Thing → Type 0) (Refuses : Refusal → Type 0) (which before now : ℕ) (result : Result Thing Outcome) → (Refuses Usage → ⊥) → Settles Fits Refuses result → IfErr result (IsReadCause which before now)
judged_cause Fits Refuses which before now (Ok x) spares h = tt
judged_cause Fits Refuses which before now (Err Memory) spares h = tt
judged_cause Fits Refuses which before now (Err Fine) spares h = absurd h
judged_cause Fits Refuses which before now (Err (ReadFault k)) spares h = absurd h
judged_cause Fits Refuses which before now (Err (WriteFault k)) spares h = absurd h
judged_cause Fits Refuses which before now (Err (Refused Usage)) spares h = spares h.1
judged_cause Fits Refuses which before now (Err (Refused r)) spares h = tt

settled_no_fault : {Thing : Type 0} (Fits : Thing → Type 0) (Refuses : Refusal → Type 0) (result : Result Thing Outcome) → Settles Fits Refuses result → ¬ IsFault result
settled_no_fault Fits Refuses (Ok x) h fault = fault
settled_no_fault Fits Refuses (Err (ReadFault k)) h fault = h
settled_no_fault Fits Refuses (Err (Refused r)) h fault = fault
settled_no_fault Fits Refuses (Err Memory) h fault = fault
settled_no_fault Fits Refuses (Err Fine) h fault = fault
settled_no_fault Fits Refuses (Err (WriteFault k)) h fault = fault

module _ {S : Type 0} (s : store.Ghosts S) (words : List (List ℕ)) where
  module _ {Thing : Type 0} (which : ℕ) (Fits : List ℕ → Thing → Type 0) (Refuses : List ℕ → Refusal → Type 0) where
    -- the first bytes were read and judged, and what was judged of them holds of the whole file
    pub read_judged : (limit : ℕ) (old new : S) (bytes : List ℕ) (result : Result Thing Outcome) → SparesUsage Refuses → IsBytesRead s words which limit old new (Ok bytes) → Judges Fits Refuses bytes result
        → ((text : List ℕ) → take limit text ≡ bytes → Judges Fits Refuses bytes result → Judges Fits Refuses text result) → IsThingRead s words which Fits Refuses old new result
    read_judged limit old new bytes result spares read j whole = record {
      later = read.later;
      cause = judged_cause (Fits bytes) (Refuses bytes) which (s.faults old) (s.faults new) result (spares bytes) j;
      files = read.files;
      told = λ told. judged words which Fits Refuses (s.file old) limit (s.calls old) (s.calls new) bytes result (read.told told) (λ text cut. whole text cut j);
      steady = λ steady. let u = read.steady steady in record {
        stays = u.stays;
        only = λ fault. absurd (settled_no_fault (Fits bytes) (Refuses bytes) result j fault);
        quiet = λ none. u.quiet (λ fault. fault);
      };
    }

    -- the bytes were not read
    pub read_failed : (limit : ℕ) (old new : S) (o : Outcome) → IsBytesRead s words which limit old new (Err o) → IsThingRead s words which Fits Refuses old new (Err o)
    read_failed limit old new o read = record {
      later = read.later;
      cause = read.cause;
      files = read.files;
      told = λ told. unread words which Fits Refuses (s.file old) limit (s.calls old) (s.calls new) o (read.told told);
      steady = λ steady. let u = read.steady steady in record { stays = u.stays; only = u.only; quiet = u.quiet };
    }

    -- there was no memory to begin
    pub read_unbegun : (now : S) → IsThingRead s words which Fits Refuses now now (Err Memory)
    read_unbegun now = record {
      later = omega arith;
      cause = tt;
      files = λ told name. refl;
      told = λ told. inl refl;
      steady = λ steady. record { stays = steady; only = λ fault. absurd fault; quiet = λ none. refl };
    }

-- ---- what is gathered

read_cause : (plan : Plan) (which before now : ℕ) (o : Outcome) → IsOne which plan.reads → IsReadCause which before now o → IsGatherCause plan before now o
read_cause plan which before now (ReadFault k) one h = (subst (λ n. IsOne n plan.reads) (sym h.0) one, h.1)
read_cause plan which before now Memory one h = tt
read_cause plan which before now Fine one h = absurd h
read_cause plan which before now (WriteFault k) one h = absurd h
read_cause plan which before now (Refused Usage) one h = absurd h
read_cause plan which before now (Refused r) one h = tt

cause_before : (plan : Plan) (before mid now : ℕ) (result : Result Product Outcome) → before ≤ mid → IfErr result (IsGatherCause plan mid now) → IfErr result (IsGatherCause plan before now)
cause_before plan before mid now (Ok p) le h = tt
cause_before plan before mid now (Err (ReadFault k)) le h = (h.0, let rose = h.1 in omega arith)
cause_before plan before mid now (Err Memory) le h = tt
cause_before plan before mid now (Err Fine) le h = absurd h
cause_before plan before mid now (Err (WriteFault k)) le h = absurd h
cause_before plan before mid now (Err (Refused Usage)) le h = absurd h
cause_before plan before mid now (Err (Refused r)) le h = tt

mild_cause : (plan : Plan) (before now : ℕ) (result : Result Product Outcome) → IfErr result IsMild → IfErr result (IsGatherCause plan before now)
mild_cause plan before now (Ok p) h = tt
mild_cause plan before now (Err Memory) h = tt
mild_cause plan before now (Err Fine) h = absurd h
mild_cause plan before now (Err (ReadFault k)) h = absurd h
mild_cause plan before now (Err (WriteFault k)) h = absurd h
mild_cause plan before now (Err (Refused Usage)) h = absurd h
mild_cause plan before now (Err (Refused r)) h = tt

mild_no_fault : (result : Result Product Outcome) → IfErr result IsMild → ¬ IsFault result
mild_no_fault (Ok p) h fault = fault
mild_no_fault (Err (ReadFault k)) h fault = h
mild_no_fault (Err (Refused r)) h fault = fault
mild_no_fault (Err Memory) h fault = fault
mild_no_fault (Err Fine) h fault = fault
mild_no_fault (Err (WriteFault k)) h fault = fault

settled_mild : {Thing : Type 0} (Fits : Thing → Type 0) (Refuses : Refusal → Type 0) (o : Outcome) → (Refuses Usage → ⊥) → Settles Fits Refuses (Err o) → IsMild o
settled_mild Fits Refuses Memory spares h = tt
settled_mild Fits Refuses Fine spares h = absurd h
settled_mild Fits Refuses (ReadFault k) spares h = absurd h
settled_mild Fits Refuses (WriteFault k) spares h = absurd h
settled_mild Fits Refuses (Refused Usage) spares h = spares h.1
settled_mild Fits Refuses (Refused r) spares h = tt

-- ---- what is given of what was read

module _ (plan : Plan) where
  -- one of the allowed products, or want of memory
  pub given : (Allowed : Product → Agents → Type 0) (left : Agents) (result : Result Product Outcome) → ((p : Product) → Allowed p left → FitsPlan plan p) → Gives Allowed left result → IsDecided plan (Give Allowed) left result
  unfolding Gathers
  given Allowed left (Ok p) fits h = record { mild = tt; planned = fits p h; told = λ words file calls. (inl (p, (h, refl)), refl) }
  given Allowed left (Err Memory) fits h = record { mild = tt; planned = tt; told = λ words file calls. (inr refl, refl) }
  given Allowed left (Err Fine) fits h = absurd h
  given Allowed left (Err (Refused r)) fits h = absurd h
  given Allowed left (Err (ReadFault k)) fits h = absurd h
  given Allowed left (Err (WriteFault k)) fits h = absurd h

  pub given_none : (Allowed : Product → Agents → Type 0) (left : Agents) → IsDecided plan (Give Allowed) left (Err Memory)
  unfolding Gathers
  given_none Allowed left = record { mild = tt; planned = tt; told = λ words file calls. (inr refl, refl) }

  module _ {Thing : Type 0} (Fits : Thing → Type 0) (Refuses : Refusal → Type 0) (next : Thing → Job) (left : Agents) where
    -- it was judged, and what came of it went on
    pub decided_on : (x : Thing) (result : Result Product Outcome) → Fits x → IsDecided plan (next x) left result → IsDecided plan (Judge Thing Fits Refuses next) left result
    unfolding Gathers
    decided_on x result fits d = record { mild = d.mild; planned = d.planned; told = λ words file calls. inr (inr (x, (fits, d.told words file calls))) }

    off_told : (words : List (List ℕ)) (file : Files) (calls : List Call) (o : Outcome) → Settles Fits Refuses (Err o) → Gathers words (Judge Thing Fits Refuses next) left file calls calls (Err o)
    unfolding Gathers
    off_told words file calls (Refused r) h = inr (inl (h.0, (r, (h.1, (refl, refl)))))
    off_told words file calls Memory h = inl (refl, refl)
    off_told words file calls Fine h = absurd h
    off_told words file calls (ReadFault k) h = absurd h
    off_told words file calls (WriteFault k) h = absurd h

    -- nothing came of it
    pub decided_off : (o : Outcome) → (Refuses Usage → ⊥) → Settles Fits Refuses (Err o) → IsDecided plan (Judge Thing Fits Refuses next) left (Err o)
    decided_off o spares h = record { mild = settled_mild Fits Refuses o spares h; planned = tt; told = λ words file calls. off_told words file calls o h }

module _ {S : Type 0} (s : store.Ghosts S) (words : List (List ℕ)) (plan : Plan) where
  -- no file is read any more
  pub gathered_decided : (job : Job) (left : Agents) (now : S) (result : Result Product Outcome) → IsDecided plan job left result → IsGathered s words plan job left now now result
  gathered_decided job left now result d = record {
    later = omega arith;
    cause = mild_cause plan (s.faults now) (s.faults now) result d.mild;
    planned = d.planned;
    files = λ told name. refl;
    told = λ told. d.told words (s.file now) (s.calls now);
    steady = λ told steady has. record { stays = steady; no_fault = mild_no_fault result d.mild; same = refl };
  }

  module _ {Thing : Type 0} (which : ℕ) (Fits : List ℕ → Thing → Type 0) (Refuses : List ℕ → Refusal → Type 0) (next : Thing → Job) (left : Agents) where
    -- the file was not read as anything
    pub gathered_stopped : (old new : S) (o : Outcome) → IsOne which plan.reads → IsThingRead s words which Fits Refuses old new (Err o) → IsGathered s words plan (Read which Thing Fits Refuses next) left old new (Err o)
    gathered_stopped old new o one read = record {
      later = read.later;
      cause = read_cause plan which (s.faults old) (s.faults new) o one read.cause;
      planned = tt;
      files = read.files;
      told = λ told. stops words which Fits Refuses (s.file old) next left (s.calls old) (s.calls new) o (read.told told);
      steady = λ told steady has.
          let q = read_quietly words which Fits Refuses (s.file old) next (s.steady new) (s.faults old) (s.faults new) (Err o) has (read.steady steady) in
          record { stays = q.stays; no_fault = q.no_fault; same = q.same };
    }

    -- it was read as this thing, and the job went on
    pub gathered_on : (old mid new : S) (x : Thing) (result : Result Product Outcome) → IsThingRead s words which Fits Refuses old mid (Ok x) → IsGathered s words plan (next x) left mid new result
        → IsGathered s words plan (Read which Thing Fits Refuses next) left old new result
    gathered_on old mid new x result read more =
        let same = λ (told : IsTrue s.tells). same_files (s.file mid) (s.file old) (read.files told) in
        record {
          later = let a = read.later in let b = more.later in omega arith;
          cause = cause_before plan (s.faults old) (s.faults mid) (s.faults new) result read.later more.cause;
          planned = more.planned;
          files = λ told name. more.files told name ∙ read.files told name;
          told = λ told. goes_on words which Fits Refuses (s.file old) next left (s.calls old) (s.calls mid) (s.calls new) x result (read.told told)
              (subst (λ f. Gathers words (next x) left f (s.calls mid) (s.calls new) result) (same told) (more.told told));
          steady = λ told steady has.
              let first = read_quietly words which Fits Refuses (s.file old) next (s.steady mid) (s.faults old) (s.faults mid) (Ok x) has (read.steady steady) in
              let has_more = has_next words which Fits Refuses (s.file old) next (s.calls old) (s.calls mid) x has (read.told told) in
              let q = more.steady told first.stays (subst (λ f. HasFiles words (next x) f) (sym (same told)) has_more) in
              record { stays = q.stays; no_fault = q.no_fault; same = q.same ∙ first.same };
        }

  -- it was judged between two reads, and what came of it went on
  pub gathered_judged : {Thing : Type 0} (Fits : Thing → Type 0) (Refuses : Refusal → Type 0) (next : Thing → Job) (left : Agents) (old new : S) (x : Thing) (result : Result Product Outcome) → Fits x
      → IsGathered s words plan (next x) left old new result → IsGathered s words plan (Judge Thing Fits Refuses next) left old new result
  unfolding Gathers HasFiles
  gathered_judged Fits Refuses next left old new x result fits more = record {
    later = more.later;
    cause = more.cause;
    planned = more.planned;
    files = more.files;
    told = λ told. inr (inr (x, (fits, more.told told)));
    steady = λ told steady has. more.steady told steady (has x fits);
  }
