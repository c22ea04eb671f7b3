use Rattle.heco_compile.proofs.Texts.{few_bytes}
use Rattle.heco_compile.proofs.compiling.compile_typed.Goals as goal

pub returns-clause-short : goal.returns-clause-short
returns-clause-short c = λ text is.
    few_bytes c.args.t.now c.source-valid.ensures.typed (rw c.outputs-valid.ensures.value at c.outputs-valid.ensures.lengths) c.in_ok-circuit_of.field-0 c.in_ok-circuit_of.ensures.circuit c.in_ok-circuit_of.ensures.few text is
