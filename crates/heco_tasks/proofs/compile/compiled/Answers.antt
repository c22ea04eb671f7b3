use Rattle.std.proofs.Common.{subst, sym, Err}
use Rattle.heco_good.specs.Accepted.{IsAccepted}
use Rattle.heco_jobs.specs.Stages.{Settles}
use Rattle.heco_tasks.specs.Executions.{IsCompileRefusal}
use Rattle.heco_tasks.proofs.CompileLaws.{refused_compile}
use Rattle.heco_tasks.proofs.compile.compiled.Goals as goal

pub returns-in-Err-clause-settled : goal.returns-in-Err-clause-settled
returns-in-Err-clause-settled c =
    let s = c.args.typed.now in
    subst (λ o. Settles {Thing = Unit {0}} (λ _. IsAccepted s) (IsCompileRefusal s) (Err o)) (sym c.answer.ensures) (refused_compile s c.in-Err.error c.in-Err.ensures.err)
