-- What a refused execution says.
use Rattle.std.proofs.Common.{ℕ, List, Err}
use Rattle.heco_eval.specs.Typed.{outputs_of}
use Rattle.heco_execution.specs.Outcomes.{Refuses}
use Rattle.heco_execution.specs.declared.error.EvalErr.{EvalErr}
use Rattle.heco_execution.specs.declared.error.EvalErr.TheVariants as execution
use Rattle.heco_syntax.specs.declared.tree.Source.{Source}
use Rattle.heco_jobs.specs.Stages.{Settles}
use Rattle.heco_tasks.specs.Executions.{AreOutputs, IsExecutionRefusal, execution_answer}

module _ (s : Source) (rows : List (List ℕ)) where
  pub refused_execution : (error : EvalErr) → Refuses error (outputs_of s rows) → Settles (AreOutputs s rows) (IsExecutionRefusal s rows) (Err (execution_answer error))
  refused_execution (execution.At rule at) h = ((λ out is. let no : ⊥ = cc in no), h)
  refused_execution execution.Memory h = tt
