use Rattle.std.proofs.Common.{subst, inl, inr, refl}
use Rattle.std.proofs.lemmas.Result.{err_from_is_err_and}
use Rattle.heco_key_files.specs.KeyFiles.{lists_of}
use Rattle.heco_jobs.specs.Agents.{agents, picking}
use Rattle.heco_jobs.specs.Stages.{IsGathered}
use Rattle.heco_jobs.specs.Words.{texts}
use Rattle.heco_jobs.proofs.StageLaws.{gathered_on, gathered_stopped}
use Rattle.heco_reads.specs.KeyFiles.{SpellsEvaluation, IsEvaluationRefusal}
use Rattle.heco_tasks.specs.CircuitTasks.{run_plan, run_key_job, served_job}
use Rattle.heco_tasks.proofs.RunLaws.{left_alone}
use Rattle.heco_top.proofs.run.gather_key.Goals as goal

pub returns-in_err-key-clause-gathered : goal.returns-in_err-key-clause-gathered
unfolding run_key_job
returns-in_err-key-clause-gathered g c = λ passes.
    let was = goal.Picker-dyn g (c.args.picker.now.vtable, c.args.picker.now.value) in
    let from = agents (picking (was.rule c.args.picker.now.value) (was.state c.args.picker.now.value)) passes in
    let q = c.args.preset.now in
    let p = err_from_is_err_and c.from_residual.result c.from_residual.ensures.1 in
    rw (p.1, p.2) (gathered_stopped g.S.Store (texts c.args.words.now) run_plan 2 (SpellsEvaluation q) (IsEvaluationRefusal 2 q) (served_job from q c.args.circuit.now) from
    c.args.store.now c.read_evaluation.new.store c.in_err-key.field-0.0 (inr (inl refl)) c.in_err-key.ensures.read)

pub returns-in_err-key-clause-left : goal.returns-in_err-key-clause-left
returns-in_err-key-clause-left g c =
    let p = err_from_is_err_and c.from_residual.result c.from_residual.ensures.1 in
    rw (p.1, p.2) (left_alone c.in_err-key.field-0.0 c.args.picker.now)

pub returns-clause-gathered : goal.returns-clause-gathered
unfolding run_key_job
returns-clause-gathered g c = λ passes.
    let was = goal.Picker-dyn g (c.args.picker.now.vtable, c.args.picker.now.value) in
    let now = goal.Picker-dyn g (c.gather_served.new.picker.vtable, c.gather_served.new.picker.value) in
    let from = agents (picking (was.rule c.args.picker.now.value) (was.state c.args.picker.now.value)) passes in
    let to = agents (picking (now.rule c.gather_served.new.picker.value) (now.state c.gather_served.new.picker.value)) passes in
    let q = c.args.preset.now in
    gathered_on g.S.Store (texts c.args.words.now) run_plan 2 (SpellsEvaluation q) (IsEvaluationRefusal 2 q) (served_job from q c.args.circuit.now) to
    c.args.store.now c.read_evaluation.new.store c.gather_served.new.store (lists_of c.in_ok-key.key) c.gather_served.result c.in_ok-key.ensures.read
    (subst (λ r. IsGathered g.S.Store (texts c.args.words.now) run_plan (served_job from r c.args.circuit.now (lists_of c.in_ok-key.key)) to
    c.read_evaluation.new.store c.gather_served.new.store c.gather_served.result) c.in_ok-key.ensures.kept (c.gather_served.ensures.gathered passes))
