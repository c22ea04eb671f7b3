use Rattle.std.proofs.Common.{refl, subst, sym, Err}
use Rattle.heco_sources.specs.Sources.{IsSource}
use Rattle.heco_jobs.specs.Stages.{Judges}
use Rattle.heco_reads.specs.SourceFiles.{IsSourceRefusal}
use Rattle.heco_reads.proofs.SourceLaws.{refused_source}
use Rattle.heco_reads.proofs.source.judge_source.Goals as goal

pub returns-in-Err-clause-judged : goal.returns-in-Err-clause-judged
returns-in-Err-clause-judged c =
    subst (λ o. Judges IsSource IsSourceRefusal c.args.text.now (Err o)) (sym c.answer.ensures)
    (refused_source c.args.text.now c.in-Err.error (Err c.in-Err.error) refl c.in-Err.ensures.refused c.in-Err.ensures.reads)

pub returns-in-Ok-clause-text : goal.returns-in-Ok-clause-text
returns-in-Ok-clause-text c = record { text = c.args.text.now; is = c.in-Ok.ensures.source }
