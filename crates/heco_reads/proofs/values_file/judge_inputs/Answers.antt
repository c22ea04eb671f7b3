use Rattle.std.proofs.Common.{subst, sym, Err}
use Rattle.heco_texts.specs.Answers.{IsRead}
use Rattle.heco_jobs.specs.Stages.{Judges}
use Rattle.heco_reads.specs.SourceFiles.{IsTextRefusal}
use Rattle.heco_reads.proofs.InputLaws.{refused_values}
use Rattle.heco_reads.proofs.values_file.judge_inputs.Goals as goal

pub returns-in-Err-clause-judged : goal.returns-in-Err-clause-judged
returns-in-Err-clause-judged c = let t = c.args.preset.now.t in
    subst (λ o. Judges (IsRead t c.args.shapes.now) (IsTextRefusal t c.args.shapes.now) c.args.text.now (Err o)) (sym c.answer.ensures)
    (refused_values t c.args.shapes.now c.args.text.now c.in-Err.error c.in-Err.ensures.refused c.in-Err.ensures.reads)
