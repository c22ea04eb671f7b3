-- The calls of a job are the first of its planned calls.
use Rattle.std.proofs.Common.{◌≡◌, ◌⊎◌, ◌<◌, ◌∙◌, ℕ, List, [], ◌∷◌, ◌++◌, map, Option, Some, None, Result, Ok, Err, refl, sym, ap, subst, inl, inr, append_assoc, append-nil}
use Rattle.std.specs.Prelude.{is_some, true, false}
use Rattle.heco_outside.specs.declared.store.Call.{Call}
use Rattle.heco_jobs.specs.declared.outcome.Outcome.{Outcome}
use Rattle.heco_jobs.specs.declared.outcome.Outcome.TheVariants.{Ok as Fine, Refused, ReadFault, WriteFault, Memory}
use Rattle.heco_jobs.specs.declared.outcome.Refusal.{Refusal}
use Rattle.heco_jobs.specs.declared.product.Planned.{Planned}
use Rattle.heco_jobs.specs.declared.product.Product.{Product}
use Rattle.heco_jobs.specs.Agents.{Agents}
use Rattle.heco_jobs.specs.Calls.{Step, reading, writing, done, failed}
use Rattle.heco_jobs.specs.Endings.{Gathers, Writes, EndsAfter, JobEnds, Printed, with_calls}
use Rattle.heco_jobs.specs.Jobs.{Job, Read, Judge, Give}
use Rattle.heco_jobs.specs.Outsides.{Files, Outside}
use Rattle.heco_jobs.specs.Plans.{Plan, FitsPlan, Begun, StoppedAt, FollowsSteps, steps_of}
use Rattle.heco_jobs.specs.Products.{Prints, Stores}

-- the job reads these words in order, and what it gives is planned
unfoldable pub Plans : Job → List ℕ → Plan → Type 0
Plans (Read which Thing Fits Refuses next) [] plan = ⊥
Plans (Read which Thing Fits Refuses next) (r ∷ reads) plan = (which ≡ r) × ((x : Thing) → Plans (next x) reads plan)
Plans (Judge Thing Fits Refuses next) reads plan = (x : Thing) → Plans (next x) reads plan
Plans (Give Allowed) [] plan = (p : Product) (left : Agents) → Allowed p left → FitsPlan plan p
Plans (Give Allowed) (r ∷ reads) plan = ⊥

-- a product that prints, and one that stores
pub fits_print : (plan : Plan) (text : List ℕ) (p : Product) → plan.writes ≡ [] → plan.prints ≡ true → Prints text p → FitsPlan plan p
fits_print plan text p none some h = record { writes = ap (map (λ w. w.which)) h.writes ∙ sym none; text = ap is_some h.text ∙ sym some }

pub fits_store : (plan : Plan) (files : List Planned) (p : Product) → plan.writes ≡ map (λ w. w.which) files → plan.prints ≡ false → Stores files p → FitsPlan plan p
fits_store plan files p these none h = record { writes = ap (map (λ w. w.which)) h.writes ∙ sym these; text = ap is_some h.text ∙ sym none }

-- no written word has the number of standard output
abbrev pub ArePositive : List ℕ → Type 0
ArePositive [] = Unit {0}
ArePositive (n ∷ ns) = (0 < n) × ArePositive ns

module _ (words : List (List ℕ)) where
  abbrev pub GatherFollows : List ℕ → Plan → List Call → List Call → Result Product Outcome → Type 0
  GatherFollows reads plan calls calls' (Ok p) = (calls' ≡ calls ++ map (done words) (map reading reads)) × FitsPlan plan p
  GatherFollows reads plan calls calls' (Err (ReadFault k)) = StoppedAt words (reading k) (map reading reads) calls calls'
  GatherFollows reads plan calls calls' (Err (Refused r)) = Begun words (map reading reads) calls calls'
  GatherFollows reads plan calls calls' (Err Memory) = Begun words (map reading reads) calls calls'
  GatherFollows reads plan calls calls' (Err outcome) = ⊥

  begun_behind : (step : Step) (steps : List Step) (calls calls' : List Call) → Begun words steps (calls ++ done words step ∷ []) calls' → Begun words (step ∷ steps) calls calls'
  begun_behind step steps calls calls' b = record {
    made = step ∷ b.made;
    left = b.left;
    parts = ap (λ s. step ∷ s) b.parts;
    grew = b.grew ∙ append_assoc calls (done words step ∷ []) (map (done words) b.made);
  }

  stopped_behind : (stop step : Step) (steps : List Step) (calls calls' : List Call) → StoppedAt words stop steps (calls ++ done words step ∷ []) calls' → StoppedAt words stop (step ∷ steps) calls calls'
  stopped_behind stop step steps calls calls' b = record {
    made = step ∷ b.made;
    left = b.left;
    parts = ap (λ s. step ∷ s) b.parts;
    grew = b.grew ∙ ap (λ x. x ++ failed words stop ∷ []) (append_assoc calls (done words step ∷ []) (map (done words) b.made));
  }

  not_begun : (steps : List Step) (calls : List Call) → Begun words steps calls calls
  not_begun steps calls = record { made = []; left = steps; parts = refl; grew = sym (append-nil calls) }

  begun_once : (step : Step) (steps : List Step) (calls calls' : List Call) → calls' ≡ calls ++ done words step ∷ [] → Begun words (step ∷ steps) calls calls'
  begun_once step steps calls calls' is = record { made = step ∷ []; left = steps; parts = refl; grew = is }

  stopped_at_once : (step : Step) (steps : List Step) (calls calls' : List Call) → calls' ≡ calls ++ failed words step ∷ [] → StoppedAt words step (step ∷ steps) calls calls'
  stopped_at_once step steps calls calls' is = record { made = []; left = steps; parts = refl; grew = is ∙ ap (λ x. x ++ failed words step ∷ []) (sym (append-nil calls)) }

  behind : (r : ℕ) (reads : List ℕ) (plan : Plan) (calls calls' : List Call) (result : Result Product Outcome) → GatherFollows reads plan (calls ++ done words (reading r) ∷ []) calls' result → GatherFollows (r ∷ reads) plan calls calls' result
  behind r reads plan calls calls' (Ok p) h = (h.0 ∙ append_assoc calls (done words (reading r) ∷ []) (map (done words) (map reading reads)), h.1)
  behind r reads plan calls calls' (Err (ReadFault k)) h = stopped_behind (reading k) (reading r) (map reading reads) calls calls' h
  behind r reads plan calls calls' (Err (Refused f)) h = begun_behind (reading r) (map reading reads) calls calls' h
  behind r reads plan calls calls' (Err Memory) h = begun_behind (reading r) (map reading reads) calls calls' h
  behind r reads plan calls calls' (Err Fine) h = absurd h
  behind r reads plan calls calls' (Err (WriteFault k)) h = absurd h

  memory_follows : (r : ℕ) (reads : List ℕ) (plan : Plan) (calls calls' : List Call) → (calls' ≡ calls) ⊎ (calls' ≡ calls ++ done words (reading r) ∷ []) → GatherFollows (r ∷ reads) plan calls calls' (Err Memory)
  memory_follows r reads plan calls calls' (inl is) = subst (λ cs. Begun words (map reading (r ∷ reads)) calls cs) (sym is) (not_begun (map reading (r ∷ reads)) calls)
  memory_follows r reads plan calls calls' (inr is) = begun_once (reading r) (map reading reads) calls calls' is

  refused_follows : (reads : List ℕ) (plan : Plan) (calls calls' : List Call) (f : Refusal) → calls' ≡ calls → GatherFollows reads plan calls calls' (Err (Refused f))
  refused_follows reads plan calls calls' f is = subst (λ cs. Begun words (map reading reads) calls cs) (sym is) (not_begun (map reading reads) calls)

  memory_at_once : (reads : List ℕ) (plan : Plan) (calls calls' : List Call) → calls' ≡ calls → GatherFollows reads plan calls calls' (Err Memory)
  memory_at_once reads plan calls calls' is = subst (λ cs. Begun words (map reading reads) calls cs) (sym is) (not_begun (map reading reads) calls)

  pub gather_follows : (job : Job) (left : Agents) (reads : List ℕ) (plan : Plan) (file : Files) (calls calls' : List Call) (result : Result Product Outcome) → Plans job reads plan → Gathers words job left file calls calls' result → GatherFollows reads plan calls calls' result
  unfolding Plans Gathers
  gather_follows (Read which Thing Fits Refuses next) left [] plan file calls calls' result p h = absurd p
  gather_follows (Read which Thing Fits Refuses next) left (r ∷ reads) plan file calls calls' result p (inl h) =
      subst (λ res. GatherFollows (r ∷ reads) plan calls calls' res) (sym h.0)
      (subst (λ k. StoppedAt words (reading which) (reading k ∷ map reading reads) calls calls') p.0 (stopped_at_once (reading which) (map reading reads) calls calls' h.1))
  gather_follows (Read which Thing Fits Refuses next) left (r ∷ reads) plan file calls calls' result p (inr (inl h)) =
      subst (λ res. GatherFollows (r ∷ reads) plan calls calls' res) (sym h.0)
      (subst (λ k. GatherFollows (k ∷ reads) plan calls calls' (Err Memory)) p.0 (memory_follows which reads plan calls calls' h.1))
  gather_follows (Read which Thing Fits Refuses next) left (r ∷ reads) plan file calls calls' result p (inr (inr (text, (there, inl (none, (f, (refuses, (is, grew)))))))) =
      subst (λ res. GatherFollows (r ∷ reads) plan calls calls' res) (sym is)
      (subst (λ k. GatherFollows (k ∷ reads) plan calls calls' (Err (Refused f))) p.0 (begun_once (reading which) (map reading reads) calls calls' grew))
  gather_follows (Read which Thing Fits Refuses next) left (r ∷ reads) plan file calls calls' result p (inr (inr (text, (there, inr (x, (fits, more)))))) =
      subst (λ k. GatherFollows (k ∷ reads) plan calls calls' result) p.0
      (behind which reads plan calls calls' result (gather_follows (next x) left reads plan file (calls ++ done words (reading which) ∷ []) calls' result (p.1 x) more))
  gather_follows (Judge Thing Fits Refuses next) left reads plan file calls calls' result p (inl h) =
      subst (λ res. GatherFollows reads plan calls calls' res) (sym h.0) (memory_at_once reads plan calls calls' h.1)
  gather_follows (Judge Thing Fits Refuses next) left reads plan file calls calls' result p (inr (inl (none, (f, (refuses, (is, grew)))))) =
      subst (λ res. GatherFollows reads plan calls calls' res) (sym is) (refused_follows reads plan calls calls' f grew)
  gather_follows (Judge Thing Fits Refuses next) left reads plan file calls calls' result p (inr (inr (x, (fits, more)))) = gather_follows (next x) left reads plan file calls calls' result (p x) more
  gather_follows (Give Allowed) left (r ∷ reads) plan file calls calls' result p h = absurd p
  gather_follows (Give Allowed) left [] plan file calls calls' result p (inl (q, (allowed, is)), grew) =
      subst (λ res. GatherFollows [] plan calls calls' res) (sym is) (grew ∙ sym (append-nil calls), p q left allowed)
  gather_follows (Give Allowed) left [] plan file calls calls' result p (inr is, grew) =
      subst (λ res. GatherFollows [] plan calls calls' res) (sym is) (subst (λ cs. Begun words [] calls cs) (sym grew) (not_begun [] calls))

  -- ---- writing

  abbrev writings_of : List Planned → List Step
  writings_of ws = map writing (map (λ w. w.which) ws)

  follows_behind : (step : Step) (steps : List Step) (calls calls' : List Call) (outcome : Outcome) → FollowsSteps words steps (calls ++ done words step ∷ []) calls' outcome → FollowsSteps words (step ∷ steps) calls calls' outcome
  follows_behind step steps calls calls' Fine h = h ∙ append_assoc calls (done words step ∷ []) (map (done words) steps)
  follows_behind step steps calls calls' (ReadFault k) h = stopped_behind (reading k) step steps calls calls' h
  follows_behind step steps calls calls' (WriteFault k) (inl h) = inl (h.0, h.1 ∙ append_assoc calls (done words step ∷ []) (map (done words) steps))
  follows_behind step steps calls calls' (WriteFault k) (inr h) = inr (h.0, stopped_behind (writing k) step steps calls calls' h.1)
  follows_behind step steps calls calls' (Refused r) h = begun_behind step steps calls calls' h
  follows_behind step steps calls calls' Memory h = begun_behind step steps calls calls' h

  printed_follows : (text : Option (List ℕ)) (calls calls' : List Call) (out out' : List ℕ) (short short' : ℕ) (outcome : Outcome) → calls' ≡ calls → Printed text out out' short short' outcome → FollowsSteps words [] calls calls' outcome
  printed_follows text calls calls' out out' short short' Fine is h = is ∙ sym (append-nil calls)
  printed_follows (Some text) calls calls' out out' short short' (WriteFault k) is h = inl (h.0, is ∙ sym (append-nil calls))
  printed_follows None calls calls' out out' short short' (WriteFault k) is h = absurd h
  printed_follows text calls calls' out out' short short' Memory is h = subst (λ cs. Begun words [] calls cs) (sym is) (not_begun [] calls)
  printed_follows (Some text) calls calls' out out' short short' (ReadFault k) is h = absurd h
  printed_follows None calls calls' out out' short short' (ReadFault k) is h = absurd h
  printed_follows (Some text) calls calls' out out' short short' (Refused r) is h = absurd h
  printed_follows None calls calls' out out' short short' (Refused r) is h = absurd h

  pub writes_follow : (ws : List Planned) (text : Option (List ℕ)) (old new : Outside) (outcome : Outcome) → ArePositive (map (λ w. w.which) ws)
      → Writes words ws text old new outcome → FollowsSteps words (writings_of ws) old.calls new.calls outcome
  unfolding Writes
  writes_follow [] text old new outcome pos h = printed_follows text old.calls new.calls old.taken new.taken old.shortages new.shortages outcome h.1.0 h.1.1
  writes_follow (w ∷ ws) text old new outcome pos (inl h) =
      subst (λ o. FollowsSteps words (writings_of (w ∷ ws)) old.calls new.calls o) (sym h.0) (inr (pos.0, stopped_at_once (writing w.which) (writings_of ws) old.calls new.calls h.1.calls))
  writes_follow (w ∷ ws) text old new outcome pos (inr (inl h)) =
      subst (λ o. FollowsSteps words (writings_of (w ∷ ws)) old.calls new.calls o) (sym h.0)
      (subst (λ cs. Begun words (writings_of (w ∷ ws)) old.calls cs) (sym h.1.calls) (not_begun (writings_of (w ∷ ws)) old.calls))
  writes_follow (w ∷ ws) text old new outcome pos (inr (inr (between, (set, more)))) =
      follows_behind (writing w.which) (writings_of ws) old.calls new.calls outcome
      (writes_follow ws text (with_calls old between (old.calls ++ done words (writing w.which) ∷ [])) new outcome pos.1 more)

  -- all reads, and then the writes
  reads_then : (reads : List Step) (steps : List Step) (calls calls' : List Call) (outcome : Outcome) → FollowsSteps words steps (calls ++ map (done words) reads) calls' outcome → FollowsSteps words (reads ++ steps) calls calls' outcome
  reads_then [] steps calls calls' outcome h = subst (λ cs. FollowsSteps words steps cs calls' outcome) (append-nil calls) h
  reads_then (r ∷ reads) steps calls calls' outcome h =
      follows_behind r (reads ++ steps) calls calls' outcome (reads_then reads steps (calls ++ done words r ∷ []) calls' outcome (subst (λ cs. FollowsSteps words steps cs calls' outcome) (sym (append_assoc calls (done words r ∷ []) (map (done words) reads))) h))

  begun_more : (steps more : List Step) (calls calls' : List Call) → Begun words steps calls calls' → Begun words (steps ++ more) calls calls'
  begun_more steps more calls calls' b = record { made = b.made; left = b.left ++ more; parts = ap (λ s. s ++ more) b.parts ∙ append_assoc b.made b.left more; grew = b.grew }

  stopped_more : (stop : Step) (steps more : List Step) (calls calls' : List Call) → StoppedAt words stop steps calls calls' → StoppedAt words stop (steps ++ more) calls calls'
  stopped_more stop steps more calls calls' b = record { made = b.made; left = b.left ++ more; parts = ap (λ s. s ++ more) b.parts ∙ append_assoc b.made (stop ∷ b.left) more; grew = b.grew }

  ends_follow : (plan : Plan) (gathered : Result Product Outcome) (reads : List Call) (old new : Outside) (outcome : Outcome) → ArePositive plan.writes → GatherFollows plan.reads plan old.calls reads gathered
      → EndsAfter words gathered (with_calls old old.file reads) new outcome → FollowsSteps words (steps_of plan) old.calls new.calls outcome
  ends_follow plan (Ok p) reads old new outcome pos g e =
      let writes = writes_follow p.writes p.text (with_calls old old.file reads) new outcome (subst ArePositive (sym g.1.writes) pos) e in
      reads_then (map reading plan.reads) (map writing plan.writes) old.calls new.calls outcome
      (subst (λ ws. FollowsSteps words (map writing ws) (old.calls ++ map (done words) (map reading plan.reads)) new.calls outcome) g.1.writes
      (subst (λ cs. FollowsSteps words (writings_of p.writes) cs new.calls outcome) g.0 writes))
  ends_follow plan (Err (ReadFault k)) reads old new outcome pos g e =
      subst (λ o. FollowsSteps words (steps_of plan) old.calls new.calls o) (sym e.0)
      (subst (λ cs. StoppedAt words (reading k) (steps_of plan) old.calls cs) (sym e.1.calls) (stopped_more (reading k) (map reading plan.reads) (map writing plan.writes) old.calls reads g))
  ends_follow plan (Err (Refused r)) reads old new outcome pos g e =
      subst (λ o. FollowsSteps words (steps_of plan) old.calls new.calls o) (sym e.0)
      (subst (λ cs. Begun words (steps_of plan) old.calls cs) (sym e.1.calls) (begun_more (map reading plan.reads) (map writing plan.writes) old.calls reads g))
  ends_follow plan (Err Memory) reads old new outcome pos g e =
      subst (λ o. FollowsSteps words (steps_of plan) old.calls new.calls o) (sym e.0)
      (subst (λ cs. Begun words (steps_of plan) old.calls cs) (sym e.1.calls) (begun_more (map reading plan.reads) (map writing plan.writes) old.calls reads g))
  ends_follow plan (Err Fine) reads old new outcome pos g e = absurd g
  ends_follow plan (Err (WriteFault k)) reads old new outcome pos g e = absurd g

  pub job_follows : (job : Job) (plan : Plan) (left : Agents) (old new : Outside) (outcome : Outcome) → Plans job plan.reads plan → ArePositive plan.writes → JobEnds words job left old new outcome
      → FollowsSteps words (steps_of plan) old.calls new.calls outcome
  job_follows job plan left old new outcome plans pos h =
      ends_follow plan h.gathered h.reads old new outcome pos (gather_follows job left plan.reads plan old.file old.calls h.reads h.gathered plans h.gathers) h.ends
