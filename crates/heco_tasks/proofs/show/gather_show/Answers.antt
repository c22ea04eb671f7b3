use Rattle.std.proofs.Common.{refl, inl}
use Rattle.std.proofs.lemmas.Result.{err_from_is_err_and}
use Rattle.heco_jobs.specs.Words.{texts}
use Rattle.heco_circuit.specs.CircuitFile.{Spells}
use Rattle.heco_reads.specs.CircuitFiles.{IsCircuitRefusal}
use Rattle.heco_tasks.specs.CircuitTasks.{show_plan, show_job, shown_job}
use Rattle.heco_jobs.proofs.StageLaws.{gathered_on, gathered_stopped, gathered_decided}
use Rattle.heco_tasks.proofs.show.gather_show.Goals as goal

pub returns-in_err-circuit : goal.returns-in_err-circuit
unfolding show_job
returns-in_err-circuit g c = λ agents.
    let p = err_from_is_err_and c.from_residual.result c.from_residual.ensures.1 in
    rw (p.1, p.2) (gathered_stopped g.S.Store (texts c.args.words.now) show_plan 1 Spells (IsCircuitRefusal 1) (shown_job agents) agents
    c.args.store.now c.read_circuit.new.store c.in_err-circuit.field-0.0 (inl refl) c.in_err-circuit.ensures)

pub returns : goal.returns
unfolding show_job
returns g c = λ agents.
    gathered_on g.S.Store (texts c.args.words.now) show_plan 1 Spells (IsCircuitRefusal 1) (shown_job agents) agents
    c.args.store.now c.read_circuit.new.store c.read_circuit.new.store c.in_ok-circuit.circuit c.give_listing.result c.in_ok-circuit.ensures
    (gathered_decided g.S.Store (texts c.args.words.now) show_plan (shown_job agents c.in_ok-circuit.circuit) agents c.read_circuit.new.store c.give_listing.result (c.give_listing.ensures agents))
