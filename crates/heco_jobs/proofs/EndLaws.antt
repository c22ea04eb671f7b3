-- What stands after a job, and that a job with no refusal due is not refused.
use Rattle.std.proofs.Common.{◌≡◌, ◌++◌, ◌∷◌, [], ℕ, List, Option, Some, None, Result, Ok, Err, sym, ap, subst, inl, inr}
use Rattle.heco_outside.specs.declared.store.Call.{Call}
use Rattle.heco_jobs.specs.declared.outcome.Outcome.{Outcome}
use Rattle.heco_jobs.specs.declared.outcome.Outcome.TheVariants.{Ok as Fine, Refused, ReadFault, WriteFault, Memory}
use Rattle.heco_jobs.specs.declared.outcome.Refusal.{Refusal}
use Rattle.heco_jobs.specs.declared.product.Planned.{Planned}
use Rattle.heco_jobs.specs.declared.product.Product.{Product}
use Rattle.heco_jobs.specs.Agents.{Agents}
use Rattle.heco_jobs.specs.Calls.{done, writing}
use Rattle.heco_jobs.specs.Endings.{Gathers, Writes, EndsAfter, JobEnds, Printed, with_calls}
use Rattle.heco_jobs.specs.Jobs.{Job, Read, Judge, Give}
use Rattle.heco_jobs.specs.Laws.{Stands, IsClear, IsOkOrMemory, IsNoFault}
use Rattle.heco_jobs.specs.Outsides.{Files, Outside, SameOutside}

abbrev PrintedBetween : Option (List ℕ) → Outside → Outside → Outcome → Type 0
PrintedBetween text old new outcome = Printed text old.taken new.taken old.shortages new.shortages outcome

printed_stands : (text : Option (List ℕ)) (old new : Outside) (outcome : Outcome) → PrintedBetween text old new outcome → Stands old new outcome
printed_stands text old new Fine h = tt
printed_stands (Some text) old new (WriteFault k) h = inl h.0
printed_stands None old new (WriteFault k) h = absurd h
printed_stands (Some text) old new Memory h = inr h.0
printed_stands None old new Memory h = absurd h
printed_stands (Some text) old new (ReadFault k) h = absurd h
printed_stands None old new (ReadFault k) h = absurd h
printed_stands (Some text) old new (Refused r) h = absurd h
printed_stands None old new (Refused r) h = absurd h

-- a command that came to its writes is neither refused nor ended by a read fault
abbrev IsWritten : Outcome → Type 0
IsWritten (Refused r) = ⊥
IsWritten (ReadFault k) = ⊥
IsWritten outcome = Unit {0}

printed_written : (text : Option (List ℕ)) (old new : Outside) (outcome : Outcome) → PrintedBetween text old new outcome → IsWritten outcome
printed_written text old new Fine h = tt
printed_written text old new (WriteFault k) h = tt
printed_written text old new Memory h = tt
printed_written (Some text) old new (ReadFault k) h = h
printed_written None old new (ReadFault k) h = h
printed_written (Some text) old new (Refused r) h = h
printed_written None old new (Refused r) h = h

-- standing but for the files and the calls, which a written command may change
stands_again : (old : Outside) (between : Files) (calls : List Call) (new : Outside) (outcome : Outcome) → IsWritten outcome → Stands (with_calls old between calls) new outcome → Stands old new outcome
stands_again old between calls new Fine w h = h
stands_again old between calls new (WriteFault k) w h = h
stands_again old between calls new Memory w h = h
stands_again old between calls new (ReadFault k) w h = absurd w
stands_again old between calls new (Refused r) w h = absurd w

module _ (words : List (List ℕ)) where
  writes_written : (ws : List Planned) (text : Option (List ℕ)) (old new : Outside) (outcome : Outcome) → Writes words ws text old new outcome → IsWritten outcome
  unfolding Writes
  writes_written [] text old new outcome h = printed_written text old new outcome h.1.1
  writes_written (w ∷ ws) text old new outcome (inl h) = subst IsWritten (sym h.0) tt
  writes_written (w ∷ ws) text old new outcome (inr (inl h)) = subst IsWritten (sym h.0) tt
  writes_written (w ∷ ws) text old new outcome (inr (inr (between, (set, more)))) =
      writes_written ws text (with_calls old between (old.calls ++ done words (writing w.which) ∷ [])) new outcome more

  writes_stand : (ws : List Planned) (text : Option (List ℕ)) (old new : Outside) (outcome : Outcome) → Writes words ws text old new outcome → Stands old new outcome
  unfolding Writes
  writes_stand [] text old new outcome h = printed_stands text old new outcome h.1.1
  writes_stand (w ∷ ws) text old new outcome (inl h) = subst (λ o. Stands old new o) (sym h.0) (inr h.1.taken)
  writes_stand (w ∷ ws) text old new outcome (inr (inl h)) = subst (λ o. Stands old new o) (sym h.0) (inl h.1.taken)
  writes_stand (w ∷ ws) text old new outcome (inr (inr (between, (set, more)))) =
      let mid = with_calls old between (old.calls ++ done words (writing w.which) ∷ []) in
      stands_again old between (old.calls ++ done words (writing w.which) ∷ []) new outcome (writes_written ws text mid new outcome more) (writes_stand ws text mid new outcome more)

  pub same_stand : (old new : Outside) (outcome : Outcome) → SameOutside old new → Stands old new outcome
  same_stand old new Fine same = tt
  same_stand old new (WriteFault k) same = inr same.taken
  same_stand old new Memory same = inl same.taken
  same_stand old new (ReadFault k) same = (same.files, same.taken)
  same_stand old new (Refused r) same = (same.files, same.taken)

  stands_behind : (old : Outside) (calls : List Call) (new : Outside) (outcome : Outcome) → Stands (with_calls old old.file calls) new outcome → Stands old new outcome
  stands_behind old calls new Fine h = h
  stands_behind old calls new (WriteFault k) h = h
  stands_behind old calls new Memory h = h
  stands_behind old calls new (ReadFault k) h = h
  stands_behind old calls new (Refused r) h = h

  pub job_stands : (job : Job) (left : Agents) (old new : Outside) (outcome : Outcome) → JobEnds words job left old new outcome → Stands old new outcome
  job_stands job left old new outcome h = stands_behind old h.reads new outcome (ends_stand h.gathered h.ends)
    where
      ends_stand : (gathered : Result Product Outcome) → EndsAfter words gathered (with_calls old old.file h.reads) new outcome → Stands (with_calls old old.file h.reads) new outcome
      ends_stand (Ok p) e = writes_stand p.writes p.text (with_calls old old.file h.reads) new outcome e
      ends_stand (Err answer) e = same_stand (with_calls old old.file h.reads) new outcome e.1

  -- ---- completeness

  not_refused : (job : Job) (left : Agents) (file : Files) (calls calls' : List Call) (result : Result Product Outcome) (f : Refusal) → result ≡ Err (Refused f) → IsClear words job file → Gathers words job left file calls calls' result → ⊥
  unfolding Gathers IsClear
  not_refused (Read which Thing Fits Refuses next) left file calls calls' result f is clear (inl h) = cc
  not_refused (Read which Thing Fits Refuses next) left file calls calls' result f is clear (inr (inl h)) = cc
  not_refused (Read which Thing Fits Refuses next) left file calls calls' result f is clear (inr (inr (text, (there, inl (none, h))))) = let x = (clear text there).0 in none x.0 x.1
  not_refused (Read which Thing Fits Refuses next) left file calls calls' result f is clear (inr (inr (text, (there, inr (x, (fits, more)))))) =
      not_refused (next x) left file _ calls' result f is ((clear text there).1 x fits) more
  not_refused (Judge Thing Fits Refuses next) left file calls calls' result f is clear (inl h) = cc
  not_refused (Judge Thing Fits Refuses next) left file calls calls' result f is clear (inr (inl (none, h))) = none clear.0.0 clear.0.1
  not_refused (Judge Thing Fits Refuses next) left file calls calls' result f is clear (inr (inr (x, (fits, more)))) = not_refused (next x) left file calls calls' result f is (clear.1 x fits) more
  not_refused (Give Allowed) left file calls calls' result f is clear (inl (p, (allowed, h)), grew) = cc
  not_refused (Give Allowed) left file calls calls' result f is clear (inr h, grew) = cc

  pub job_not_refused : (job : Job) (left : Agents) (old new : Outside) (f : Refusal) → IsClear words job old.file → JobEnds words job left old new (Refused f) → ⊥
  job_not_refused job left old new f clear h = refuses h.gathered h.gathers h.ends
    where
      refuses : (gathered : Result Product Outcome) → Gathers words job left old.file old.calls h.reads gathered → EndsAfter words gathered (with_calls old old.file h.reads) new (Refused f) → ⊥
      refuses (Ok p) g e = writes_written p.writes p.text (with_calls old old.file h.reads) new (Refused f) e
      refuses (Err answer) g e = not_refused job left old.file old.calls h.reads (Err answer) f (let e0 : answer ≡ Refused f = sym e.0 in ap Err e0) clear g

  -- done, unless memory ran out
  pub job_done : (job : Job) (left : Agents) (old new : Outside) (outcome : Outcome) → IsClear words job old.file → IsNoFault outcome → JobEnds words job left old new outcome → IsOkOrMemory outcome
  job_done job left old new Fine clear n e = tt
  job_done job left old new Memory clear n e = tt
  job_done job left old new (ReadFault k) clear n e = absurd n
  job_done job left old new (WriteFault k) clear n e = absurd n
  job_done job left old new (Refused r) clear n e = absurd (job_not_refused job left old new r clear e)
