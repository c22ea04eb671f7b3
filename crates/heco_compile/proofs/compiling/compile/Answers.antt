use Rattle.heco_compile.proofs.Texts.{compiled}
use Rattle.heco_compile.proofs.compiling.compile.Goals as goal

pub returns-clause-compiled : goal.returns-clause-compiled
returns-clause-compiled c =
    let text = c.args.text.now in
    let is = c.in_ok-source.ensures.source in
    compiled text c.in_ok-source.source is c.compile_typed.result c.compile_typed.ensures.accepted c.compile_typed.ensures.circuit (c.compile_typed.ensures.short text is)
