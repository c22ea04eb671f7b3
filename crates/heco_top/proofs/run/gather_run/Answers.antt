use Rattle.std.proofs.Common.{subst, inl, refl}
use Rattle.std.proofs.lemmas.Result.{err_from_is_err_and}
use Rattle.heco_circuit.specs.CircuitFile.{Spells}
use Rattle.heco_nums.specs.PresetRows.{preset_of}
use Rattle.heco_jobs.specs.Agents.{agents, picking}
use Rattle.heco_jobs.specs.Stages.{IsGathered}
use Rattle.heco_jobs.specs.Words.{texts}
use Rattle.heco_jobs.proofs.StageLaws.{gathered_on, gathered_stopped}
use Rattle.heco_reads.specs.CircuitFiles.{IsCircuitRefusal}
use Rattle.heco_tasks.specs.CircuitTasks.{run_plan, run_job, run_key_job}
use Rattle.heco_tasks.proofs.RunLaws.{left_alone}
use Rattle.heco_top.proofs.run.gather_run.Goals as goal

pub returns-in_err-circuit-clause-gathered : goal.returns-in_err-circuit-clause-gathered
unfolding run_job
returns-in_err-circuit-clause-gathered g c = λ passes.
    let was = goal.Picker-dyn g (c.args.picker.now.vtable, c.args.picker.now.value) in
    let from = agents (picking (was.rule c.args.picker.now.value) (was.state c.args.picker.now.value)) passes in
    let p = err_from_is_err_and c.from_residual.result c.from_residual.ensures.1 in
    rw (p.1, p.2) (gathered_stopped g.S.Store (texts c.args.words.now) run_plan 1 Spells (IsCircuitRefusal 1) (λ c. run_key_job from (preset_of c.preset) c) from
    c.args.store.now c.read_circuit.new.store c.in_err-circuit.field-0.0 (inl refl) c.in_err-circuit.ensures)

pub returns-in_err-circuit-clause-left : goal.returns-in_err-circuit-clause-left
returns-in_err-circuit-clause-left g c =
    let p = err_from_is_err_and c.from_residual.result c.from_residual.ensures.1 in
    rw (p.1, p.2) (left_alone c.in_err-circuit.field-0.0 c.args.picker.now)

pub returns-clause-gathered : goal.returns-clause-gathered
unfolding run_job
returns-clause-gathered g c = λ passes.
    let was = goal.Picker-dyn g (c.args.picker.now.vtable, c.args.picker.now.value) in
    let now = goal.Picker-dyn g (c.gather_key.new.picker.vtable, c.gather_key.new.picker.value) in
    let from = agents (picking (was.rule c.args.picker.now.value) (was.state c.args.picker.now.value)) passes in
    let to = agents (picking (now.rule c.gather_key.new.picker.value) (now.state c.gather_key.new.picker.value)) passes in
    gathered_on g.S.Store (texts c.args.words.now) run_plan 1 Spells (IsCircuitRefusal 1) (λ c. run_key_job from (preset_of c.preset) c) to
    c.args.store.now c.read_circuit.new.store c.gather_key.new.store c.in_ok-circuit.circuit c.gather_key.result c.in_ok-circuit.ensures
    (subst (λ q. IsGathered g.S.Store (texts c.args.words.now) run_plan (run_key_job from q c.in_ok-circuit.circuit) to c.read_circuit.new.store c.gather_key.new.store c.gather_key.result)
    c.preset.ensures.whole (c.gather_key.ensures.gathered passes))
