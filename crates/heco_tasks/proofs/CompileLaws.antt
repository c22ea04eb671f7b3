-- A source that is not compiled is not accepted.
use Rattle.std.proofs.Common.{Err}
use Rattle.heco_compile.proofs.Refused.{refused_not_accepted}
use Rattle.heco_compile.specs.Compiling.{IsRefused}
use Rattle.heco_compile.specs.declared.error.CompileErr.{CompileErr}
use Rattle.heco_compile.specs.declared.error.CompileErr.TheVariants as compiling
use Rattle.heco_good.specs.Accepted.{IsAccepted}
use Rattle.heco_syntax.specs.declared.tree.Source.{Source}
use Rattle.heco_jobs.specs.Stages.{Settles}
use Rattle.heco_tasks.specs.Executions.{IsCompileRefusal, compile_answer}

pub refused_compile : (s : Source) (e : CompileErr) → IsRefused s e → Settles {Thing = Unit {0}} (λ u. IsAccepted s) (IsCompileRefusal s) (Err (compile_answer e))
refused_compile s compiling.SourceLong h = absurd h
refused_compile s (compiling.At rule at) h = ((λ u. refused_not_accepted s (compiling.At rule at) (λ e. let no : ⊥ = cc in no) h), h)
refused_compile s (compiling.TooDeep out index bound) h = ((λ u. refused_not_accepted s (compiling.TooDeep out index bound) (λ e. let no : ⊥ = cc in no) h), h)
refused_compile s compiling.Memory h = tt
