use Rattle.std.proofs.lemmas.Result.{err_from_is_err_and}
use Rattle.heco_key_files.specs.KeyFiles.{lists_of}
use Rattle.heco_jobs.specs.Agents.{agents, picking}
use Rattle.heco_jobs.specs.Words.{texts}
use Rattle.heco_jobs.proofs.StageLaws.{gathered_decided, gathered_judged, decided_off}
use Rattle.heco_tasks.specs.CircuitTasks.{run_plan, served_job, ciphertexts_job}
use Rattle.heco_tasks.specs.Running.{HasKeys, IsKeyRefusal}
use Rattle.heco_tasks.proofs.RunLaws.{left_alone, usage_is_none}
use Rattle.heco_top.proofs.run.gather_served.Goals as goal

pub returns-in_err-judge_keys-clause-gathered : goal.returns-in_err-judge_keys-clause-gathered
unfolding served_job
returns-in_err-judge_keys-clause-gathered g c = λ passes.
    let was = goal.Picker-dyn g (c.args.picker.now.vtable, c.args.picker.now.value) in
    let from = agents (picking (was.rule c.args.picker.now.value) (was.state c.args.picker.now.value)) passes in
    let q = c.args.key.now.preset in
    let e = lists_of c.args.key.now in
    let p = err_from_is_err_and c.from_residual.result c.from_residual.ensures.1 in
    rw (p.1, p.2) (gathered_decided g.S.Store (texts c.args.words.now) run_plan _ from c.args.store.now _
    (decided_off run_plan {Thing = Unit {0}} (λ u. HasKeys c.args.circuit.now e) (IsKeyRefusal c.args.circuit.now e) (λ u. ciphertexts_job from q c.args.circuit.now e) from
    c.in_err-judge_keys.field-0.0 (usage_is_none c.args.circuit.now e) c.in_err-judge_keys.ensures))

pub returns-in_err-judge_keys-clause-left : goal.returns-in_err-judge_keys-clause-left
returns-in_err-judge_keys-clause-left g c =
    let p = err_from_is_err_and c.from_residual.result c.from_residual.ensures.1 in
    rw (p.1, p.2) (left_alone c.in_err-judge_keys.field-0.0 c.args.picker.now)

pub returns-clause-gathered : goal.returns-clause-gathered
unfolding served_job
returns-clause-gathered g c = λ passes.
    let was = goal.Picker-dyn g (c.args.picker.now.vtable, c.args.picker.now.value) in
    let now = goal.Picker-dyn g (c.gather_inputs.new.picker.vtable, c.gather_inputs.new.picker.value) in
    let from = agents (picking (was.rule c.args.picker.now.value) (was.state c.args.picker.now.value)) passes in
    let to = agents (picking (now.rule c.gather_inputs.new.picker.value) (now.state c.gather_inputs.new.picker.value)) passes in
    let q = c.args.key.now.preset in
    let e = lists_of c.args.key.now in
    gathered_judged g.S.Store (texts c.args.words.now) run_plan {Thing = Unit {0}} (λ u. HasKeys c.args.circuit.now e) (IsKeyRefusal c.args.circuit.now e)
    (λ u. ciphertexts_job from q c.args.circuit.now e) to c.args.store.now c.gather_inputs.new.store tt c.gather_inputs.result c.in_ok-judge_keys.ensures (c.gather_inputs.ensures.gathered passes)
