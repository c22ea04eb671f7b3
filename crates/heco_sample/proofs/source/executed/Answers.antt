use Rattle.heco_sample.proofs.Refusals.{not_broken}
use Rattle.heco_sample.proofs.source.executed.Goals as goal

pub not_executed-requires : goal.not_executed-requires
not_executed-requires c = not_broken c.args.typed.now c.args.values.now.rows c.requires.is c.requires.fit c.in-Err.error c.in-Err.ensures.err
