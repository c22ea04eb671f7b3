use Rattle.std.proofs.Common.{subst, sym, Err}
use Rattle.heco_sources.specs.Inputs.{IsInput, modulus_of, input_shapes}
use Rattle.heco_jobs.specs.Stages.{Judges}
use Rattle.heco_reads.specs.SourceFiles.{IsValuesRefusal}
use Rattle.heco_reads.proofs.InputLaws.{refused_values}
use Rattle.heco_reads.proofs.values_file.judge_values.Goals as goal

pub returns-in-Err : goal.returns-in-Err
returns-in-Err c = let s = c.args.typed.now in
    subst (λ o. Judges (IsInput s) (IsValuesRefusal s) c.args.text.now (Err o)) (sym c.answer.ensures)
    (refused_values (modulus_of s) (input_shapes s) c.args.text.now c.in-Err.error c.in-Err.ensures.refused c.in-Err.ensures.reads)
