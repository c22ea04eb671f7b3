use Rattle.std.proofs.Common.{refl, inl}
use Rattle.std.proofs.lemmas.Result.{err_from_is_err_and}
use Rattle.heco_sources.specs.Sources.{IsSource}
use Rattle.heco_jobs.proofs.StageLaws.{gathered_on, gathered_stopped, gathered_decided}
use Rattle.heco_jobs.specs.Words.{texts}
use Rattle.heco_reads.specs.SourceFiles.{IsSourceRefusal}
use Rattle.heco_tasks.specs.SourceTasks.{compile_plan, compile_job, accepted_job}
use Rattle.heco_top.proofs.compile.gather_compile.Goals as goal

pub returns-in_err-typed-clause-gathered : goal.returns-in_err-typed-clause-gathered
unfolding compile_job
returns-in_err-typed-clause-gathered g c = λ picker.
    let p = err_from_is_err_and c.from_residual.result c.from_residual.ensures.1 in
    rw (p.1, p.2) (gathered_stopped g.S.Store (texts c.args.words.now) compile_plan 1 IsSource IsSourceRefusal (accepted_job _) _
    c.args.store.now c.read_source.new.store c.in_err-typed.field-0.0 (inl refl) c.in_err-typed.ensures.read)

pub returns-clause-gathered : goal.returns-clause-gathered
unfolding compile_job
returns-clause-gathered g c = λ picker.
    gathered_on g.S.Store (texts c.args.words.now) compile_plan 1 IsSource IsSourceRefusal (accepted_job _) _
    c.args.store.now c.read_source.new.store c.read_source.new.store c.in_ok-typed.typed c.give_circuit.result c.in_ok-typed.ensures.read
    (gathered_decided g.S.Store (texts c.args.words.now) compile_plan (accepted_job _ c.in_ok-typed.typed) _ c.read_source.new.store c.give_circuit.result (c.give_circuit.ensures.decided picker))
