use Rattle.std.proofs.Common.{refl, subst, inl, inr}
use Rattle.std.proofs.lemmas.Result.{err_from_is_err_and}
use Rattle.heco_jobs.specs.Words.{texts}
use Rattle.heco_key_files.specs.KeyFiles.{lists_of}
use Rattle.heco_jobs.specs.Stages.{IsGathered}
use Rattle.heco_jobs.proofs.StageLaws.{gathered_on, gathered_stopped}
use Rattle.heco_reads.specs.KeyFiles.{SpellsEvaluation, IsEvaluationRefusal}
use Rattle.heco_tasks.specs.MeasureTask.{measure_plan, measured_key_job, measured_served_job}
use Rattle.heco_tasks.proofs.measure.gather_key.Goals as goal

pub returns-in_err-key : goal.returns-in_err-key
unfolding measured_key_job
returns-in_err-key g c = λ agents.
    let q = c.args.preset.now in
    let p = err_from_is_err_and c.from_residual.result c.from_residual.ensures.1 in
    rw (p.1, p.2) (gathered_stopped g.S.Store (texts c.args.words.now) measure_plan 3 (SpellsEvaluation q) (IsEvaluationRefusal 3 q) (measured_served_job agents q c.args.circuit.now c.args.secret.now.places) agents
    c.args.store.now c.read_evaluation.new.store c.in_err-key.field-0.0 (inr (inr (inl refl))) c.in_err-key.ensures.read)

pub returns : goal.returns
unfolding measured_key_job
returns g c = λ agents.
    let q = c.args.preset.now in
    let s = c.args.secret.now.places in
    gathered_on g.S.Store (texts c.args.words.now) measure_plan 3 (SpellsEvaluation q) (IsEvaluationRefusal 3 q) (measured_served_job agents q c.args.circuit.now s) agents
    c.args.store.now c.read_evaluation.new.store c.gather_served.new.store (lists_of c.in_ok-key.key) c.gather_served.result c.in_ok-key.ensures.read
    (subst (λ r. IsGathered g.S.Store (texts c.args.words.now) measure_plan (measured_served_job agents r c.args.circuit.now s (lists_of c.in_ok-key.key)) agents
    c.read_evaluation.new.store c.gather_served.new.store c.gather_served.result) c.in_ok-key.ensures.kept (c.gather_served.ensures agents))
