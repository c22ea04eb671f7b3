use Rattle.std.proofs.Common.{refl, Ok}
use Rattle.std.proofs.lemmas.Result.{err_from_is_err_and}
use Rattle.heco_nums.specs.declared.shape.Values.{Values}
use Rattle.heco_sources.specs.Inputs.{output_shapes}
use Rattle.heco_texts.specs.Outputs.{output_text}
use Rattle.heco_jobs.specs.Agents.{asking_none}
use Rattle.heco_jobs.specs.Jobs.{Give}
use Rattle.heco_jobs.specs.Products.{Prints}
use Rattle.heco_jobs.proofs.ProductLaws.{gives_print}
use Rattle.heco_jobs.proofs.StageLaws.{decided_on, decided_off, given_none}
use Rattle.heco_tasks.specs.Executions.{AreOutputs, IsExecutionRefusal}
use Rattle.heco_tasks.specs.SourceTasks.{plain_plan, outputs_job}
use Rattle.heco_tasks.proofs.plain.give_outputs.Goals as goal

pub returns-in_err-outputs : goal.returns-in_err-outputs
unfolding outputs_job
returns-in_err-outputs c = λ agents.
    let s = c.args.typed.now in
    let rows = c.args.inputs.now.rows in
    let p = err_from_is_err_and c.from_residual.result c.from_residual.ensures.1 in
    rw (p.1, p.2) (decided_off plain_plan {Thing = Values} (AreOutputs s rows) (IsExecutionRefusal s rows) (λ out. Give (asking_none agents (Prints (output_text (output_shapes s) out.rows)))) agents
    c.in_err-outputs.field-0.0 (λ h. h) c.in_err-outputs.ensures.settled)

pub returns-in_err-product : goal.returns-in_err-product
unfolding outputs_job
returns-in_err-product c = λ agents.
    let s = c.args.typed.now in
    let rows = c.args.inputs.now.rows in
    let p = err_from_is_err_and c.from_residual-in_err-product.result c.from_residual-in_err-product.ensures.1 in
    rw (p.1, p.2) (decided_on plain_plan {Thing = Values} (AreOutputs s rows) (IsExecutionRefusal s rows) (λ out. Give (asking_none agents (Prints (output_text (output_shapes s) out.rows)))) agents
    c.in_ok-outputs.outputs _ c.in_ok-outputs.ensures.settled (given_none plain_plan _ agents))

pub returns : goal.returns
unfolding outputs_job
returns c = λ agents.
    let s = c.args.typed.now in
    let rows = c.args.inputs.now.rows in
    decided_on plain_plan {Thing = Values} (AreOutputs s rows) (IsExecutionRefusal s rows) (λ out. Give (asking_none agents (Prints (output_text (output_shapes s) out.rows)))) agents
    c.in_ok-outputs.outputs (Ok c.in_ok-product.product) c.in_ok-outputs.ensures.settled
    (gives_print plain_plan (output_text (output_shapes s) c.in_ok-outputs.outputs.rows) agents c.in_ok-product.product refl refl c.in_ok-product.ensures)
