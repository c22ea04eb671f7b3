-- What a done job owes: each file can be read as one thing alone, so that what was gathered is owed; and what it has read allows it.
use Rattle.std.proofs.Common.{◌≡◌, ◌∙◌, ℕ, Bool, true, false, List, [], ◌∷◌, ◌++◌, Option, Some, None, Result, Ok, Err, refl, sym, ap, subst, inl, inr, append-nil}
use Rattle.std.specs.Prelude.{unwrap_or, if◌then◌else◌}
use Rattle.std.specs.Str.{bytes_eq}
use Rattle.std.specs.Cmp.Lexicographic.{same_text, other_text}
use Rattle.std.proofs.lemmas.Option.{same_Some}
use Rattle.heco_outside.specs.Calls.{HasSet}
use Rattle.heco_outside.specs.declared.store.Call.{Call}
use Rattle.heco_jobs.specs.declared.outcome.Outcome.{Outcome}
use Rattle.heco_jobs.specs.declared.outcome.Outcome.TheVariants.{Ok as Fine, Refused, ReadFault, WriteFault, Memory}
use Rattle.heco_jobs.specs.declared.outcome.Refusal.{Refusal}
use Rattle.heco_jobs.specs.declared.product.Planned.{Planned}
use Rattle.heco_jobs.specs.declared.product.Product.{Product}
use Rattle.heco_jobs.specs.Agents.{Agents}
use Rattle.heco_jobs.specs.Calls.{done, writing}
use Rattle.heco_jobs.specs.Done.{Owes, Fulfils, after_writes, with_file, Done}
use Rattle.heco_jobs.specs.Endings.{Gathers, Writes, EndsAfter, JobEnds, Printed, with_calls}
use Rattle.heco_jobs.specs.Jobs.{Job, Read, Judge, Give}
use Rattle.heco_jobs.specs.Outsides.{Files, SameFiles, Outside}
use Rattle.heco_jobs.specs.Words.{name_of}
use Rattle.heco_jobs.proofs.StageLaws.{same_files}

-- each file can be read as one thing alone, and one thing alone comes of what was read
unfoldable pub Tells : Job → Type 0
Tells (Read which Thing Fits Refuses next) = ((text : List ℕ) (x y : Thing) → Fits text x → Fits text y → x ≡ y) × ((x : Thing) → Tells (next x))
Tells (Judge Thing Fits Refuses next) = ((x y : Thing) → Fits x → Fits y → x ≡ y) × ((x : Thing) → Tells (next x))
Tells (Give Allowed) = Unit {0}

module _ (words : List (List ℕ)) where
  -- ---- what was gathered

  abbrev Owed : Job → Agents → Files → Result Product Outcome → Type 0
  Owed job left file (Ok p) = Fulfils words job left file p × Owes words job left file p
  Owed job left file (Err Fine) = ⊥
  Owed job left file (Err outcome) = Unit {0}

  owed_behind : {Thing : Type 0} (which : ℕ) (Fits : List ℕ → Thing → Type 0) (Refuses : List ℕ → Refusal → Type 0) (next : Thing → Job) (left : Agents) (file : Files) (text : List ℕ) (x : Thing) (result : Result Product Outcome)
      → ((t : List ℕ) (y z : Thing) → Fits t y → Fits t z → y ≡ z) → file (name_of words which) ≡ Some text → Fits text x → Owed (next x) left file result → Owed (Read which Thing Fits Refuses next) left file result
  unfolding Owes Fulfils
  owed_behind which Fits Refuses next left file text x (Ok p) one there fits h = (
    (x, (record { text = text; there = there; fits = fits }, h.0)),
    λ text' x' there' fits'.
        let same : text' ≡ text = same_Some text' text (sym there' ∙ there) in
        subst (λ y. Owes words (next y) left file p) (one text x x' fits (subst (λ t. Fits t x') same fits')) h.1,
  )
  owed_behind which Fits Refuses next left file text x (Err Fine) one there fits h = h
  owed_behind which Fits Refuses next left file text x (Err (Refused r)) one there fits h = tt
  owed_behind which Fits Refuses next left file text x (Err (ReadFault k)) one there fits h = tt
  owed_behind which Fits Refuses next left file text x (Err (WriteFault k)) one there fits h = tt
  owed_behind which Fits Refuses next left file text x (Err Memory) one there fits h = tt

  owed_judged : {Thing : Type 0} (Fits : Thing → Type 0) (Refuses : Refusal → Type 0) (next : Thing → Job) (left : Agents) (file : Files) (x : Thing) (result : Result Product Outcome)
      → ((y z : Thing) → Fits y → Fits z → y ≡ z) → Fits x → Owed (next x) left file result → Owed (Judge Thing Fits Refuses next) left file result
  unfolding Owes Fulfils
  owed_judged Fits Refuses next left file x (Ok p) one fits h = ((x, (fits, h.0)), λ x' fits'. subst (λ y. Owes words (next y) left file p) (one x x' fits fits') h.1)
  owed_judged Fits Refuses next left file x (Err Fine) one fits h = h
  owed_judged Fits Refuses next left file x (Err (Refused r)) one fits h = tt
  owed_judged Fits Refuses next left file x (Err (ReadFault k)) one fits h = tt
  owed_judged Fits Refuses next left file x (Err (WriteFault k)) one fits h = tt
  owed_judged Fits Refuses next left file x (Err Memory) one fits h = tt

  gather_owed : (job : Job) (left : Agents) (file : Files) (calls calls' : List Call) (result : Result Product Outcome) → Tells job → Gathers words job left file calls calls' result → Owed job left file result
  unfolding Gathers Tells Owes Fulfils
  gather_owed (Read which Thing Fits Refuses next) left file calls calls' result t (inl h) = subst (Owed (Read which Thing Fits Refuses next) left file) (sym h.0) tt
  gather_owed (Read which Thing Fits Refuses next) left file calls calls' result t (inr (inl h)) = subst (Owed (Read which Thing Fits Refuses next) left file) (sym h.0) tt
  gather_owed (Read which Thing Fits Refuses next) left file calls calls' result t (inr (inr (text, (there, inl (none, (r, (refuses, (ends, grew)))))))) =
      subst (Owed (Read which Thing Fits Refuses next) left file) (sym ends) tt
  gather_owed (Read which Thing Fits Refuses next) left file calls calls' result t (inr (inr (text, (there, inr (x, (fits, more)))))) =
      owed_behind which Fits Refuses next left file text x result t.0 there fits (gather_owed (next x) left file _ calls' result (t.1 x) more)
  gather_owed (Judge Thing Fits Refuses next) left file calls calls' result t (inl h) = subst (Owed (Judge Thing Fits Refuses next) left file) (sym h.0) tt
  gather_owed (Judge Thing Fits Refuses next) left file calls calls' result t (inr (inl (none, (r, (refuses, (ends, grew)))))) =
      subst (Owed (Judge Thing Fits Refuses next) left file) (sym ends) tt
  gather_owed (Judge Thing Fits Refuses next) left file calls calls' result t (inr (inr (x, (fits, more)))) =
      owed_judged Fits Refuses next left file x result t.0 fits (gather_owed (next x) left file calls calls' result (t.1 x) more)
  gather_owed (Give Allowed) left file calls calls' result t (inl (p, (allowed, is)), grew) = subst (Owed (Give Allowed) left file) (sym is) (allowed, allowed)
  gather_owed (Give Allowed) left file calls calls' result t (inr is, grew) = subst (Owed (Give Allowed) left file) (sym is) tt

  -- ---- what was written

  set_at : (file : Files) (name bytes : List ℕ) (between : Files) (other : List ℕ) (b : Bool) → b ≡ bytes_eq other name → HasSet file name bytes between → between other ≡ (if b then Some bytes else file other)
  set_at file name bytes between other true is set = ap between (same_text other name is) ∙ set.same
  set_at file name bytes between other false is set = set.others other (other_text other name is)

  set_file : (file : Files) (name bytes : List ℕ) (between : Files) → HasSet file name bytes between → between ≡ with_file name bytes file
  set_file file name bytes between set = same_files between (with_file name bytes file) (λ other. set_at file name bytes between other (bytes_eq other name) refl set)

  abbrev IsWhole : List Planned → Option (List ℕ) → Files → List ℕ → Outside → Type 0
  IsWhole ws text file taken new = SameFiles (after_writes words ws file) new.file × (new.taken ≡ taken ++ unwrap_or text [])

  printed_whole : (text : Option (List ℕ)) (out out' : List ℕ) (short short' : ℕ) → Printed text out out' short short' Fine → out' ≡ out ++ unwrap_or text []
  printed_whole (Some text) out out' short short' h = h
  printed_whole None out out' short short' h = h ∙ sym (append-nil out)

  writes_whole : (ws : List Planned) (text : Option (List ℕ)) (old new : Outside) → Writes words ws text old new Fine → IsWhole ws text old.file old.taken new
  unfolding Writes
  writes_whole [] text old new h = (h.0, printed_whole text old.taken new.taken old.shortages new.shortages h.1.1)
  writes_whole (w ∷ ws) text old new (inl h) = let x = h.0 in absurd (let no : ⊥ = cc in no)
  writes_whole (w ∷ ws) text old new (inr (inl h)) = let x = h.0 in absurd (let no : ⊥ = cc in no)
  writes_whole (w ∷ ws) text old new (inr (inr (between, (set, more)))) =
      subst (λ f. IsWhole ws text f old.taken new) (set_file old.file (name_of words w.which) w.bytes between set)
      (writes_whole ws text (with_calls old between (old.calls ++ done words (writing w.which) ∷ [])) new more)

  gathered_done : (job : Job) (left : Agents) (gathered : Result Product Outcome) (reads : List Call) (old new : Outside) → Owed job left old.file gathered
      → EndsAfter words gathered (with_calls old old.file reads) new Fine → Done words job left old new
  gathered_done job left (Ok p) reads old new o e =
      let w = writes_whole p.writes p.text (with_calls old old.file reads) new e in
      record { product = p; fulfilled = o.0; owed = o.1; files = w.0; printed = w.1 }
  gathered_done job left (Err Fine) reads old new o e = absurd o
  gathered_done job left (Err (Refused r)) reads old new o e = let x = e.0 in absurd (let no : ⊥ = cc in no)
  gathered_done job left (Err (ReadFault k)) reads old new o e = let x = e.0 in absurd (let no : ⊥ = cc in no)
  gathered_done job left (Err (WriteFault k)) reads old new o e = let x = e.0 in absurd (let no : ⊥ = cc in no)
  gathered_done job left (Err Memory) reads old new o e = let x = e.0 in absurd (let no : ⊥ = cc in no)

  pub job_done_as_owed : (job : Job) (left : Agents) (old new : Outside) → Tells job → JobEnds words job left old new Fine → Done words job left old new
  job_done_as_owed job left old new t e = gathered_done job left e.gathered e.reads old new (gather_owed job left old.file old.calls e.reads e.gathered t e.gathers) e.ends
