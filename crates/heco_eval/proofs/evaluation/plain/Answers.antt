use Rattle.std.proofs.Common.{◌≡◌, subst, length, true}
use Rattle.std.specs.Prelude.{IfOk}
use Rattle.heco_types.specs.Shapes.{shapes_of}
use Rattle.heco_execution.specs.Secrets.{numbers}
use Rattle.heco_eval.proofs.OutputCounts.{counted}
use Rattle.heco_eval.proofs.evaluation.plain.Goals as goal

pub returns-clause-err : goal.returns-clause-err
returns-clause-err c = rw (← c.modulus.ensures.value, ← c.source.ensures.value) c.plain.ensures.err

pub returns-clause-count : goal.returns-clause-count
returns-clause-count c =
    subst (λ s. IfOk c.plain.result (λ out. length out.rows ≡ length (shapes_of true s.ports))) c.source.ensures.value
    (counted (numbers c.modulus.result) c.source.result.now c.args.i.now.rows c.plain.result c.plain.ensures.ok)
