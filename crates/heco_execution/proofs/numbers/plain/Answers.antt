use Rattle.std.proofs.Common.{Ok}
use Rattle.std.proofs.lemmas.Result.{err_from_is_err_and}
use Rattle.heco_execution.specs.Secrets.{numbers, storeless}
use Rattle.heco_execution.specs.Whole.{execute}
use Rattle.heco_execution.proofs.OutcomeLemmas.{refuses_after}
use Rattle.heco_execution.proofs.numbers.plain.Goals as goal

pub returns-in_err-rows-clause-err : goal.returns-in_err-rows-clause-err
returns-in_err-rows-clause-err c =
    let p = err_from_is_err_and c.from_residual.result c.from_residual.ensures.1 in
    rw (p.1, p.2, ← c.as_slice.ensures)
    (refuses_after
    (execute (storeless {S = Unit {0}} (numbers c.args.numbers.t)) c.args.source.now c.as_slice.result.now (record { steps = 0; store = tt }))
    (λ r. Ok r.0) c.in_err-rows.field-0.0 c.in_err-rows.ensures.err)
