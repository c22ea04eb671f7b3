use Rattle.std.proofs.Common.{Err}
use Rattle.std.proofs.lemmas.Result.{err_from_is_err_and}
use Rattle.heco_good.specs.Accepted.{IsAccepted}
use Rattle.heco_jobs.proofs.StageLaws.{gathered_decided, gathered_judged, decided_off}
use Rattle.heco_jobs.specs.Words.{texts}
use Rattle.heco_tasks.specs.Executions.{IsCompileRefusal}
use Rattle.heco_exec.specs.ExecTask.{exec_plan, accepted_job, inputs_job}
use Rattle.heco_top.proofs.exec.gather_accepted.Goals as goal

pub returns-in_err-circuit-clause-gathered : goal.returns-in_err-circuit-clause-gathered
unfolding accepted_job
returns-in_err-circuit-clause-gathered g c =
    let s = c.args.typed.now in
    let p = err_from_is_err_and c.from_residual.result c.from_residual.ensures.1 in
    rw (p.1, p.2) (gathered_decided g.S.Store (texts c.args.words.now) exec_plan (accepted_job _ s) _ c.args.store.now (Err c.in_err-circuit.field-0.0)
    (decided_off exec_plan {Thing = Unit {0}} (λ _. IsAccepted s) (IsCompileRefusal s) (λ _. inputs_job _ s) _ c.in_err-circuit.field-0.0 (λ h. h) c.in_err-circuit.ensures.settled))

pub returns-clause-gathered : goal.returns-clause-gathered
unfolding accepted_job
returns-clause-gathered g c =
    let s = c.args.typed.now in
    gathered_judged g.S.Store (texts c.args.words.now) exec_plan {Thing = Unit {0}} (λ _. IsAccepted s) (IsCompileRefusal s) (λ _. inputs_job _ s) _
    c.args.store.now c.gather_inputs.new.store tt c.gather_inputs.result c.in_ok-circuit.ensures.settled (c.gather_inputs.ensures.gathered s _ _ c.in_ok-circuit.ensures.circuit)
