-- What `measure` printed is what its files say, and of the files of one chain within bounds.
use Rattle.std.proofs.Common.{ℕ, List, Option, Some, None}
use Rattle.heco_jobs.specs.Agents.{Agents}
use Rattle.heco_jobs.specs.Outsides.{Outside}
use Rattle.heco_jobs.specs.declared.outcome.Outcome.{Outcome}
use Rattle.heco_jobs.specs.declared.outcome.Outcome.TheVariants.{Ok as Fine, Refused, ReadFault, WriteFault, Memory}
use Rattle.heco_tasks.proofs.MeasuredFileLaws.{done_is_within}
use Rattle.heco_tasks.proofs.MeasureLaws.{done_is_measured}
use Rattle.heco_top.specs.Answers.{DoneFor, MeasuredFor, WithinFor}
use Rattle.heco_top.specs.declared.command.Command.{Command}
use Rattle.heco_top.specs.declared.command.Command.TheVariants.{Measure}

module _ (words : List (List ℕ)) (agents left : Agents) (old new : Outside) where
  pub done_measured : (c : Option Command) (outcome : Outcome) → DoneFor words c agents left old new outcome → MeasuredFor words c old new outcome
  done_measured (Some Measure) Fine d = done_is_measured words agents left old new d
  done_measured (Some Measure) (Refused r) d = tt
  done_measured (Some Measure) (ReadFault k) d = tt
  done_measured (Some Measure) (WriteFault k) d = tt
  done_measured (Some Measure) Memory d = tt
  done_measured (Some command) outcome d = tt
  done_measured None outcome d = tt

  pub done_within : (c : Option Command) (outcome : Outcome) → DoneFor words c agents left old new outcome → WithinFor words c old new outcome
  done_within (Some Measure) Fine d = done_is_within words agents left old new d
  done_within (Some Measure) (Refused r) d = tt
  done_within (Some Measure) (ReadFault k) d = tt
  done_within (Some Measure) (WriteFault k) d = tt
  done_within (Some Measure) Memory d = tt
  done_within (Some command) outcome d = tt
  done_within None outcome d = tt
