use Rattle.std.proofs.Common.{subst, sym, Err}
use Rattle.heco_texts.specs.Answers.{IsRead}
use Rattle.heco_jobs.specs.Stages.{IsThingRead}
use Rattle.heco_jobs.specs.Words.{texts}
use Rattle.heco_reads.specs.SourceFiles.{IsSecondTextRefusal}
use Rattle.heco_reads.proofs.SecondLaws.{second_given, second_refused}
use Rattle.heco_reads.proofs.second_file.read_second_inputs.Goals as goal

pub returns-in-Ok-clause-read : goal.returns-in-Ok-clause-read
returns-in-Ok-clause-read g c =
    second_given (texts c.args.words.now) c.args.which c.args.preset.now.t c.args.shapes.now g.S.Store c.args.store.now c.read_inputs.new.store c.in-Ok.values c.in-Ok.ensures.read

pub returns-in-Err-clause-read : goal.returns-in-Err-clause-read
returns-in-Err-clause-read g c =
    let t = c.args.preset.now.t in
    subst (λ o. IsThingRead g.S.Store (texts c.args.words.now) c.args.which (IsRead t c.args.shapes.now) (IsSecondTextRefusal t c.args.shapes.now) c.args.store.now c.read_inputs.new.store (Err o)) (sym c.answer.ensures)
    (second_refused (texts c.args.words.now) c.args.which t c.args.shapes.now g.S.Store c.args.store.now c.read_inputs.new.store c.in-Err.outcome c.in-Err.ensures.read)
