use Rattle.std.proofs.Common.{refl, inl, inr}
use Rattle.std.proofs.lemmas.Result.{err_from_is_err_and}
use Rattle.heco_jobs.specs.Words.{texts}
use Rattle.heco_jobs.proofs.StageLaws.{gathered_on, gathered_stopped}
use Rattle.heco_reads.specs.KeyFiles.{SpellsSecret, IsSecretRefusal}
use Rattle.heco_tasks.specs.CircuitTasks.{decrypt_plan, secret_job, result_job}
use Rattle.heco_tasks.proofs.decrypt.gather_secret.Goals as goal

pub returns-in_err-key : goal.returns-in_err-key
unfolding secret_job
returns-in_err-key g c = λ agents.
    let q = c.args.preset.now in
    let p = err_from_is_err_and c.from_residual.result c.from_residual.ensures.1 in
    rw (p.1, p.2) (gathered_stopped g.S.Store (texts c.args.words.now) decrypt_plan 2 (SpellsSecret q) (IsSecretRefusal 2 q) (result_job agents q c.args.circuit.now) agents
    c.args.store.now c.read_secret.new.store c.in_err-key.field-0.0 (inr (inl refl)) c.in_err-key.ensures.read)

pub returns : goal.returns
unfolding secret_job
returns g c = λ agents.
    let q = c.args.preset.now in
    gathered_on g.S.Store (texts c.args.words.now) decrypt_plan 2 (SpellsSecret q) (IsSecretRefusal 2 q) (result_job agents q c.args.circuit.now) agents
    c.args.store.now c.read_secret.new.store c.gather_result.new.store c.in_ok-key.key.places c.gather_result.result c.in_ok-key.ensures.read (c.gather_result.ensures agents)
