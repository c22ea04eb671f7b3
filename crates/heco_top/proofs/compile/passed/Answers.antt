use Rattle.heco_top.proofs.compile.passed.Goals as goal

pub run_passes-requires : goal.run_passes-requires
run_passes-requires g c = c.in_ok-circuit.ensures.short c.requires.text c.requires.is

pub returns-clause-circuit : goal.returns-clause-circuit
returns-clause-circuit g c =
    c.passed_circuits_are_good.ensures c.args.typed.now c.in_ok-circuit.circuit c.in_ok-run_passes.field-0 _ _ c.in_ok-circuit.ensures.circuit
    (c.in_ok-circuit.ensures.short c.requires.text c.requires.is) c.in_ok-run_passes.ensures.passed
