use Rattle.std.proofs.Common.{refl, subst, inl}
use Rattle.std.proofs.lemmas.Result.{err_from_is_err_and}
use Rattle.heco_jobs.specs.Words.{texts}
use Rattle.heco_circuit.specs.CircuitFile.{Spells}
use Rattle.heco_reads.specs.CircuitFiles.{IsCircuitRefusal}
use Rattle.heco_nums.specs.PresetRows.{preset_of}
use Rattle.heco_jobs.specs.Stages.{IsGathered}
use Rattle.heco_tasks.specs.CircuitTasks.{decrypt_plan, decrypt_job, secret_job}
use Rattle.heco_jobs.proofs.StageLaws.{gathered_on, gathered_stopped}
use Rattle.heco_tasks.proofs.decrypt.gather_decrypt.Goals as goal

pub returns-in_err-circuit : goal.returns-in_err-circuit
unfolding decrypt_job
returns-in_err-circuit g c = λ agents.
    let p = err_from_is_err_and c.from_residual.result c.from_residual.ensures.1 in
    rw (p.1, p.2) (gathered_stopped g.S.Store (texts c.args.words.now) decrypt_plan 1 Spells (IsCircuitRefusal 1) (λ c. secret_job agents (preset_of c.preset) c) agents
    c.args.store.now c.read_circuit.new.store c.in_err-circuit.field-0.0 (inl refl) c.in_err-circuit.ensures)

pub returns : goal.returns
unfolding decrypt_job
returns g c = λ agents.
    gathered_on g.S.Store (texts c.args.words.now) decrypt_plan 1 Spells (IsCircuitRefusal 1) (λ c. secret_job agents (preset_of c.preset) c) agents
    c.args.store.now c.read_circuit.new.store c.gather_secret.new.store c.in_ok-circuit.circuit c.gather_secret.result c.in_ok-circuit.ensures
    (subst (λ q. IsGathered g.S.Store (texts c.args.words.now) decrypt_plan (secret_job agents q c.in_ok-circuit.circuit) agents c.read_circuit.new.store c.gather_secret.new.store c.gather_secret.result)
    c.preset.ensures.whole (c.gather_secret.ensures agents))
