use Rattle.std.proofs.lemmas.Result.{err_from_is_err_and}
use Rattle.heco_jobs.specs.Words.{texts}
use Rattle.heco_key_files.specs.KeyFiles.{lists_of}
use Rattle.heco_jobs.proofs.StageLaws.{gathered_decided, gathered_judged, decided_off}
use Rattle.heco_tasks.specs.MeasureTask.{measure_plan, measured_served_job, noise_job}
use Rattle.heco_tasks.specs.Running.{HasKeys, IsKeyRefusal}
use Rattle.heco_tasks.proofs.RunLaws.{usage_is_none}
use Rattle.heco_tasks.proofs.measure.gather_served.Goals as goal

pub returns-in_err-judge_keys : goal.returns-in_err-judge_keys
unfolding measured_served_job
returns-in_err-judge_keys g c = λ agents.
    let q = c.args.key.now.preset in
    let s = c.args.secret.now.places in
    let e = lists_of c.args.key.now in
    let p = err_from_is_err_and c.from_residual.result c.from_residual.ensures.1 in
    rw (p.1, p.2) (gathered_decided g.S.Store (texts c.args.words.now) measure_plan _ agents c.args.store.now _
    (decided_off measure_plan {Thing = Unit {0}} (λ u. HasKeys c.args.circuit.now e) (IsKeyRefusal c.args.circuit.now e) (λ u. noise_job agents q c.args.circuit.now s e) agents
    c.in_err-judge_keys.field-0.0 (usage_is_none c.args.circuit.now e) c.in_err-judge_keys.ensures))

pub returns : goal.returns
unfolding measured_served_job
returns g c = λ agents.
    let q = c.args.key.now.preset in
    let s = c.args.secret.now.places in
    let e = lists_of c.args.key.now in
    gathered_judged g.S.Store (texts c.args.words.now) measure_plan {Thing = Unit {0}} (λ u. HasKeys c.args.circuit.now e) (IsKeyRefusal c.args.circuit.now e)
    (λ u. noise_job agents q c.args.circuit.now s e) agents c.args.store.now c.gather_inputs.new.store tt c.gather_inputs.result c.in_ok-judge_keys.ensures (c.gather_inputs.ensures agents)
