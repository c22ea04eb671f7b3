use Rattle.std.proofs.Common.{refl}
use Rattle.std.proofs.lemmas.Result.{err_from_is_err_and}
use Rattle.heco_jobs.proofs.ProductLaws.{gives_store}
use Rattle.heco_jobs.proofs.StageLaws.{given_none}
use Rattle.heco_tasks.specs.DrawnFiles.{key_material_file, encryption_material_file}
use Rattle.heco_tasks.specs.CircuitTasks.{draw_plan, drawn_job, two_files}
use Rattle.heco_tasks.proofs.draw.give_material.Goals as goal

pub returns-in_err-product : goal.returns-in_err-product
unfolding drawn_job
returns-in_err-product c = λ agents.
    let p = err_from_is_err_and c.from_residual.result c.from_residual.ensures.1 in
    rw (p.1, p.2) (given_none draw_plan _ agents)

pub returns : goal.returns
unfolding drawn_job
returns c = λ agents.
    gives_store draw_plan (two_files (key_material_file c.args.circuit.now c.args.seed) (encryption_material_file c.args.circuit.now c.args.seed)) agents c.in_ok-product.product refl refl c.in_ok-product.ensures
