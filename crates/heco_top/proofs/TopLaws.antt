-- What follows, for whatever words, from how they ended.
use Rattle.std.proofs.Common.{ℕ, List, Option, Some, None, sym, subst, inl, inr}
use Rattle.heco_outside.specs.Causes.{Rose}
use Rattle.heco_jobs.specs.Agents.{Agents}
use Rattle.heco_jobs.specs.Laws.{Stands, IsOkOrMemory, IsNoFault}
use Rattle.heco_jobs.specs.Outsides.{Files, Outside}
use Rattle.heco_jobs.specs.declared.outcome.Outcome.{Outcome}
use Rattle.heco_jobs.specs.declared.outcome.Outcome.TheVariants.{Ok as Fine, Refused, ReadFault, WriteFault, Memory}
use Rattle.heco_jobs.proofs.DoneLaws.{job_done_as_owed}
use Rattle.heco_jobs.proofs.EndLaws.{job_stands, same_stand, job_not_refused}
use Rattle.heco_jobs.proofs.PlanLaws.{job_follows}
use Rattle.heco_top.specs.Answers.{CausedFor, EndsFor, FollowsFor, DoneFor, ClearFor, ReadyFor}
use Rattle.heco_top.specs.Commands.{plan_of, job_of}
use Rattle.heco_top.specs.declared.command.Command.{Command}
use Rattle.heco_top.proofs.CommandLaws.{plans, tells, positive}

module _ (words : List (List ℕ)) (agents left : Agents) (old new : Outside) where
  pub ends_as_planned : (c : Option Command) (outcome : Outcome) → EndsFor words c agents left old new outcome → FollowsFor words c old.calls new.calls outcome
  ends_as_planned (Some c) outcome e = job_follows words (job_of agents c) (plan_of c) left old new outcome (plans agents c) (positive c) e
  ends_as_planned None outcome e = e.1.calls

  pub ends_standing : (c : Option Command) (outcome : Outcome) → EndsFor words c agents left old new outcome → Stands old new outcome
  ends_standing (Some c) outcome e = job_stands words (job_of agents c) left old new outcome e
  ends_standing None outcome e = same_stand words old new outcome e.1

  pub ends_done : (c : Option Command) (outcome : Outcome) → EndsFor words c agents left old new outcome → ClearFor words c agents old.file → IsNoFault outcome → IsOkOrMemory outcome
  ends_done c Fine e clear n = tt
  ends_done c Memory e clear n = tt
  ends_done c (ReadFault k) e clear n = absurd n
  ends_done c (WriteFault k) e clear n = absurd n
  ends_done (Some c) (Refused r) e clear n = absurd (job_not_refused words (job_of agents c) left old new r clear e)
  ends_done None (Refused r) e clear n = absurd clear

  pub ends_done_as_owed : (c : Option Command) (outcome : Outcome) → EndsFor words c agents left old new outcome → DoneFor words c agents left old new outcome
  ends_done_as_owed (Some c) Fine e = job_done_as_owed words (job_of agents c) left old new (tells agents c) e
  ends_done_as_owed (Some c) (Refused r) e = tt
  ends_done_as_owed (Some c) (ReadFault k) e = tt
  ends_done_as_owed (Some c) (WriteFault k) e = tt
  ends_done_as_owed (Some c) Memory e = tt
  ends_done_as_owed None outcome e = tt

pub ready_clear : (words : List (List ℕ)) (agents : Agents) (c : Option Command) (file : Files) → ReadyFor words c agents file → ClearFor words c agents file
ready_clear words agents (Some c) file r = r.0
ready_clear words agents None file r = r

-- where no count rose, there was no fault
pub no_fault : (c : Option Command) (faults faults' failures failures' : ℕ) (outcome : Outcome) → CausedFor c faults faults' failures failures' outcome → (Rose faults faults' → ⊥) → (Rose failures failures' → ⊥) → IsNoFault outcome
no_fault (Some c) faults faults' failures failures' (ReadFault k) h none still = absurd (none h.1)
no_fault (Some c) faults faults' failures failures' (WriteFault k) (inl h) none still = absurd (none h.1)
no_fault (Some c) faults faults' failures failures' (WriteFault k) (inr h) none still = absurd (still h.1.1)
no_fault (Some c) faults faults' failures failures' Fine h none still = tt
no_fault (Some c) faults faults' failures failures' Memory h none still = tt
no_fault (Some c) faults faults' failures failures' (Refused r) h none still = tt
no_fault None faults faults' failures failures' outcome h none still = subst IsNoFault (sym h) tt
