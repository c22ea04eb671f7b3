use Rattle.std.proofs.Common.{subst, sym, Err}
use Rattle.heco_jobs.specs.Stages.{Settles}
use Rattle.heco_tasks.specs.Executions.{AreOutputs, IsExecutionRefusal}
use Rattle.heco_tasks.proofs.ExecutionLaws.{refused_execution}
use Rattle.heco_tasks.proofs.plain.executed.Goals as goal

pub returns-in-Err-clause-settled : goal.returns-in-Err-clause-settled
returns-in-Err-clause-settled c =
    let s = c.args.typed.now in
    let rows = c.args.inputs.now.rows in
    subst (λ o. Settles (AreOutputs s rows) (IsExecutionRefusal s rows) (Err o)) (sym c.answer.ensures) (refused_execution s rows c.in-Err.error c.in-Err.ensures.err)
