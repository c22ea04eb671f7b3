use Rattle.std.proofs.Common.{◌+◌, subst}
use Rattle.std.proofs.lemmas.Result.{err_from_is_err_and}
use Rattle.heco_parse.specs.Trees.{source_limit}
use Rattle.heco_sources.specs.Sources.{IsSource}
use Rattle.heco_reads.specs.SourceFiles.{IsSourceRefusal}
use Rattle.heco_jobs.proofs.StageLaws.{read_failed, read_judged}
use Rattle.heco_jobs.specs.Stages.{Judges}
use Rattle.heco_jobs.specs.Words.{texts}
use Rattle.heco_reads.proofs.SourceLaws.{judged_source}
use Rattle.heco_reads.proofs.source.read_source.Goals as goal

pub returns-in_err-text-clause-read : goal.returns-in_err-text-clause-read
returns-in_err-text-clause-read g c =
    let p = err_from_is_err_and c.from_residual.result c.from_residual.ensures.1 in
    rw (p.1, p.2) (read_failed g.S.Store (texts c.args.words.now) c.args.which (IsSource) (IsSourceRefusal) (source_limit + 1) c.args.store.now c.read_bytes.new.store c.in_err-text.field-0.0 c.in_err-text.ensures)

pub returns-clause-read : goal.returns-clause-read
returns-clause-read g c =
    let result = c.judge_source.result in
    let bytes = subst (λ b. Judges (IsSource) (IsSourceRefusal) b result) c.as_slice.ensures c.judge_source.ensures.judged in
    read_judged g.S.Store (texts c.args.words.now) c.args.which (IsSource) (IsSourceRefusal) (source_limit + 1) c.args.store.now c.read_bytes.new.store c.in_ok-text.text result
    (λ text h. h) c.in_ok-text.ensures bytes (λ text cut j. judged_source text c.in_ok-text.text result cut j)
