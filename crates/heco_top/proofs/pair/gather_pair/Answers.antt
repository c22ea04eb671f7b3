use Rattle.std.proofs.Common.{refl, inl}
use Rattle.std.proofs.lemmas.Result.{err_from_is_err_and}
use Rattle.heco_sources.specs.Sources.{IsSource}
use Rattle.heco_jobs.proofs.StageLaws.{gathered_on, gathered_stopped}
use Rattle.heco_jobs.specs.Words.{texts}
use Rattle.heco_reads.specs.SourceFiles.{IsSourceRefusal}
use Rattle.heco_pair.specs.PairTask.{pair_plan, pair_job, accepted_job}
use Rattle.heco_top.proofs.pair.gather_pair.Goals as goal

pub returns-in_err-typed-clause-gathered : goal.returns-in_err-typed-clause-gathered
unfolding pair_job
returns-in_err-typed-clause-gathered g c =
    let p = err_from_is_err_and c.from_residual.result c.from_residual.ensures.1 in
    rw (p.1, p.2) (gathered_stopped g.S.Store (texts c.args.words.now) pair_plan 1 IsSource IsSourceRefusal (accepted_job _) _
    c.args.store.now c.read_source.new.store c.in_err-typed.field-0.0 (inl refl) c.in_err-typed.ensures.read)

pub returns-clause-gathered : goal.returns-clause-gathered
unfolding pair_job
returns-clause-gathered g c =
    gathered_on g.S.Store (texts c.args.words.now) pair_plan 1 IsSource IsSourceRefusal (accepted_job _) _
    c.args.store.now c.read_source.new.store c.gather_accepted.new.store c.in_ok-typed.typed c.gather_accepted.result c.in_ok-typed.ensures.read c.gather_accepted.ensures.gathered
