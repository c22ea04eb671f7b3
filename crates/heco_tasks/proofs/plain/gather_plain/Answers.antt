use Rattle.std.proofs.Common.{refl, inl, inr}
use Rattle.std.proofs.lemmas.Result.{err_from_is_err_and}
use Rattle.heco_jobs.specs.Words.{texts}
use Rattle.heco_sources.specs.Inputs.{IsInput}
use Rattle.heco_sources.specs.Sources.{IsSource}
use Rattle.heco_jobs.proofs.StageLaws.{gathered_on, gathered_stopped, gathered_decided}
use Rattle.heco_reads.specs.SourceFiles.{IsSourceRefusal, IsValuesRefusal}
use Rattle.heco_tasks.specs.SourceTasks.{plain_plan, plain_job, values_job, outputs_job}
use Rattle.heco_tasks.proofs.plain.gather_plain.Goals as goal

pub returns-in_err-typed : goal.returns-in_err-typed
unfolding plain_job
returns-in_err-typed g c = λ agents.
    let p = err_from_is_err_and c.from_residual.result c.from_residual.ensures.1 in
    rw (p.1, p.2) (gathered_stopped g.S.Store (texts c.args.words.now) plain_plan 1 IsSource IsSourceRefusal (values_job agents) agents
    c.args.store.now c.read_source.new.store c.in_err-typed.field-0.0 (inl refl) c.in_err-typed.ensures.read)

pub returns-in_err-inputs : goal.returns-in_err-inputs
unfolding plain_job values_job
returns-in_err-inputs g c = λ agents.
    let s = c.in_ok-typed.typed in
    let p = err_from_is_err_and c.from_residual-in_err-inputs.result c.from_residual-in_err-inputs.ensures.1 in
    rw (p.1, p.2) (gathered_on g.S.Store (texts c.args.words.now) plain_plan 1 IsSource IsSourceRefusal (values_job agents) agents
    c.args.store.now c.read_source.new.store c.read_values_file.new.store s _ c.in_ok-typed.ensures.read
    (gathered_stopped g.S.Store (texts c.args.words.now) plain_plan 2 (IsInput s) (IsValuesRefusal s) (outputs_job agents s) agents
    c.read_source.new.store c.read_values_file.new.store c.in_err-inputs.field-0.0 (inr (inl refl)) c.in_err-inputs.ensures))

pub returns : goal.returns
unfolding plain_job values_job
returns g c = λ agents.
    let s = c.in_ok-typed.typed in
    gathered_on g.S.Store (texts c.args.words.now) plain_plan 1 IsSource IsSourceRefusal (values_job agents) agents
    c.args.store.now c.read_source.new.store c.read_values_file.new.store s c.give_outputs.result c.in_ok-typed.ensures.read
    (gathered_on g.S.Store (texts c.args.words.now) plain_plan 2 (IsInput s) (IsValuesRefusal s) (outputs_job agents s) agents
    c.read_source.new.store c.read_values_file.new.store c.read_values_file.new.store c.in_ok-inputs.inputs c.give_outputs.result c.in_ok-inputs.ensures
    (gathered_decided g.S.Store (texts c.args.words.now) plain_plan (outputs_job agents s c.in_ok-inputs.inputs) agents c.read_values_file.new.store c.give_outputs.result (c.give_outputs.ensures agents)))
