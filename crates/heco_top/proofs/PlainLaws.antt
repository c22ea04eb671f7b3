-- What `plain` printed is the text of the lists that the execution of its source gives.
use Rattle.std.proofs.Common.{ℕ, List, [], Option, Some, None, ap}
use Rattle.std.specs.Prelude.{unwrap_or}
use Rattle.heco_jobs.specs.Agents.{Agents}
use Rattle.heco_jobs.specs.Done.{Owes}
use Rattle.heco_jobs.specs.Outsides.{Files, Outside}
use Rattle.heco_jobs.specs.declared.outcome.Outcome.{Outcome}
use Rattle.heco_jobs.specs.declared.outcome.Outcome.TheVariants.{Ok as Fine, Refused, ReadFault, WriteFault, Memory}
use Rattle.heco_jobs.specs.declared.product.Product.{Product}
use Rattle.heco_tasks.specs.SourceTasks.{plain_job, values_job, outputs_job}
use Rattle.heco_top.specs.Answers.{IsPlainText, DoneFor, PrintsFor}
use Rattle.heco_top.specs.declared.command.Command.{Command}
use Rattle.heco_top.specs.declared.command.Command.TheVariants.{Plain}

module _ (words : List (List ℕ)) (agents left : Agents) where
  owed_text : (file : Files) (p : Product) → Owes words (plain_job agents) left file p → IsPlainText words file (unwrap_or p.text [])
  unfolding Owes plain_job values_job outputs_job
  owed_text file p owes source input s v out f1 is f2 fits gives = ap (λ t. unwrap_or t []) (owes source s f1 is input v f2 fits out gives).0.text

  pub done_printed : (old new : Outside) (c : Option Command) (outcome : Outcome) → DoneFor words c agents left old new outcome → PrintsFor words c old new outcome
  done_printed old new (Some Plain) Fine d = (unwrap_or d.product.text [], (d.printed, owed_text old.file d.product d.owed))
  done_printed old new (Some Plain) (Refused r) d = tt
  done_printed old new (Some Plain) (ReadFault k) d = tt
  done_printed old new (Some Plain) (WriteFault k) d = tt
  done_printed old new (Some Plain) Memory d = tt
  done_printed old new (Some command) outcome d = tt
  done_printed old new None outcome d = tt
