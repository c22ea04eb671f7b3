-- Of each command, what the laws of jobs ask. A later command adds its cases.
use Rattle.std.proofs.Common.{arith}
use Rattle.heco_jobs.specs.Agents.{Agents}
use Rattle.heco_jobs.proofs.DoneLaws.{Tells}
use Rattle.heco_jobs.proofs.PlanLaws.{Plans, ArePositive}
use Rattle.heco_exec.proofs.JobLaws.{plans_exec, tells_exec}
use Rattle.heco_pair.proofs.JobLaws.{plans_pair, tells_pair}
use Rattle.heco_sample.proofs.JobLaws.{plans_sample, tells_sample}
use Rattle.heco_tasks.proofs.JobLaws.{plans_plain, tells_plain, plans_compile, tells_compile, plans_show, tells_show, plans_draw, tells_draw, plans_keys, tells_keys, plans_encrypt, tells_encrypt, plans_run, tells_run, plans_decrypt, tells_decrypt, plans_measure, tells_measure}
use Rattle.heco_top.specs.Commands.{plan_of, job_of}
use Rattle.heco_top.specs.declared.command.Command.{Command}
use Rattle.heco_top.specs.declared.command.Command.TheVariants.{Plain, Compile, Show, Draw, Keys, Encrypt, Run, Decrypt, Measure, Exec, Pair, Sample}

-- its job reads the words of its plan in order, and gives what is planned
pub plans : (agents : Agents) (c : Command) → Plans (job_of agents c) (plan_of c).reads (plan_of c)
plans agents Plain = plans_plain agents
plans agents Compile = plans_compile agents
plans agents Show = plans_show agents
plans agents (Draw seed) = plans_draw agents seed
plans agents Keys = plans_keys agents
plans agents Encrypt = plans_encrypt agents
plans agents Run = plans_run agents
plans agents Decrypt = plans_decrypt agents
plans agents Measure = plans_measure agents
plans agents Exec = plans_exec agents
plans agents Pair = plans_pair agents
plans agents (Sample seed) = plans_sample agents seed

-- each file can be read as one thing alone
pub tells : (agents : Agents) (c : Command) → Tells (job_of agents c)
tells agents Plain = tells_plain agents
tells agents Compile = tells_compile agents
tells agents Show = tells_show agents
tells agents (Draw seed) = tells_draw agents seed
tells agents Keys = tells_keys agents
tells agents Encrypt = tells_encrypt agents
tells agents Run = tells_run agents
tells agents Decrypt = tells_decrypt agents
tells agents Measure = tells_measure agents
tells agents Exec = tells_exec agents
tells agents Pair = tells_pair agents
tells agents (Sample seed) = tells_sample agents seed

-- no written word has the number of standard output
pub positive : (c : Command) → ArePositive (plan_of c).writes
positive Plain = tt
positive Compile = (omega arith, tt)
positive Show = tt
positive (Draw seed) = (omega arith, (omega arith, tt))
positive Keys = (omega arith, (omega arith, tt))
positive Encrypt = (omega arith, tt)
positive Run = (omega arith, tt)
positive Decrypt = tt
positive Measure = tt
positive Exec = (omega arith, (omega arith, (omega arith, (omega arith, (omega arith, tt)))))
positive Pair = (omega arith, (omega arith, (omega arith, (omega arith, (omega arith, tt)))))
positive (Sample seed) = tt
