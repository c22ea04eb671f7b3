-- Which words a command reads and writes: the causes of faults, over whatever outside, and the planned calls.
use Rattle.std.specs.Prelude.{◌≡◌, ◌⊎◌, ◌<◌, ℕ, Bool, true, List, [], ◌∷◌, ◌++◌, map, is_some, Option}
use Rattle.heco_outside.specs.Causes.{Rose}
use Rattle.heco_outside.specs.declared.store.Call.{Call}
use Rattle.heco_jobs.specs.Calls.{Step, reading, writing, done, failed}
use Rattle.heco_jobs.specs.declared.outcome.Outcome.{Outcome}
use Rattle.heco_jobs.specs.declared.outcome.Outcome.TheVariants.{Ok as Fine, Refused, ReadFault, WriteFault, Memory}
use Rattle.heco_jobs.specs.declared.outcome.Refusal.TheVariants.{Usage}
use Rattle.heco_jobs.specs.declared.product.Planned.{Planned}
use Rattle.heco_jobs.specs.declared.product.Product.{Product}

-- the numbers of the file words that are read and of those that are written, in order, and whether the command prints
pub record Plan : Type 0 where
  pub reads : List ℕ
  pub writes : List ℕ
  pub prints : Bool

-- ---- causes

-- the number is one of these
abbrev pub IsOne : ℕ → List ℕ → Type 0
IsOne k [] = ⊥
IsOne k (n ∷ ns) = (k ≡ n) ⊎ IsOne k ns

-- a fault names a word that the command reads or writes, or 0 where it prints, and comes only where that count rose
abbrev pub IsCause : Plan → ℕ → ℕ → ℕ → ℕ → Outcome → Type 0
IsCause plan faults faults' failures failures' (ReadFault k) = IsOne k plan.reads × Rose faults faults'
IsCause plan faults faults' failures failures' (WriteFault k) = (IsOne k plan.writes × Rose faults faults')
    ⊎ ((k ≡ 0) × ((plan.prints ≡ true) × Rose failures failures'))
IsCause plan faults faults' failures failures' (Refused Usage) = ⊥
IsCause plan faults faults' failures failures' outcome = Unit {0}

-- the same of the reads alone
abbrev pub IsGatherCause : Plan → ℕ → ℕ → Outcome → Type 0
IsGatherCause plan before now (ReadFault k) = IsOne k plan.reads × Rose before now
IsGatherCause plan before now (WriteFault k) = ⊥
IsGatherCause plan before now (Refused Usage) = ⊥
IsGatherCause plan before now Fine = ⊥
IsGatherCause plan before now outcome = Unit {0}

-- and of the writes and the print
abbrev pub IsFinishCause : List Planned → Option (List ℕ) → ℕ → ℕ → ℕ → ℕ → Outcome → Type 0
IsFinishCause writes text faults faults' failures failures' (WriteFault k) = (IsOne k (map (λ w. w.which) writes) × Rose faults faults')
    ⊎ ((k ≡ 0) × ((is_some text ≡ true) × Rose failures failures'))
IsFinishCause writes text faults faults' failures failures' (ReadFault k) = ⊥
IsFinishCause writes text faults faults' failures failures' (Refused r) = ⊥
IsFinishCause writes text faults faults' failures failures' outcome = Unit {0}

-- the product writes the planned words in order, and prints where the plan says so
pub record FitsPlan (plan : Plan) (p : Product) : Type 0 where
  pub writes : map (λ w. w.which) p.writes ≡ plan.writes
  pub text : is_some p.text ≡ plan.prints

-- ---- the planned calls

abbrev pub steps_of : Plan → List Step
steps_of plan = map reading plan.reads ++ map writing plan.writes

-- the calls grew by the first of the planned calls, of which none failed
pub record Begun (words : List (List ℕ)) (steps : List Step) (calls calls' : List Call) : Type 0 where
  pub made : List Step
  pub left : List Step
  pub parts : steps ≡ made ++ left
  pub grew : calls' ≡ calls ++ map (done words) made

-- the calls grew by the first of the planned calls, of which the last alone failed, and it is this one
pub record StoppedAt (words : List (List ℕ)) (step : Step) (steps : List Step) (calls calls' : List Call) : Type 0 where
  pub made : List Step
  pub left : List Step
  pub parts : steps ≡ made ++ step ∷ left
  pub grew : calls' ≡ calls ++ map (done words) made ++ failed words step ∷ []

-- each call was made and none failed after Ok and after a failed print; a failed call is the last, and it is named; else none failed
abbrev pub FollowsSteps : List (List ℕ) → List Step → List Call → List Call → Outcome → Type 0
FollowsSteps words steps calls calls' Fine = calls' ≡ calls ++ map (done words) steps
FollowsSteps words steps calls calls' (ReadFault k) = StoppedAt words (reading k) steps calls calls'
FollowsSteps words steps calls calls' (WriteFault k) = ((k ≡ 0) × (calls' ≡ calls ++ map (done words) steps))
    ⊎ ((0 < k) × StoppedAt words (writing k) steps calls calls')
FollowsSteps words steps calls calls' (Refused r) = Begun words steps calls calls'
FollowsSteps words steps calls calls' Memory = Begun words steps calls calls'
