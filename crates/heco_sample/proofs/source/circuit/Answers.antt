use Rattle.heco_sample.proofs.Refusals.{not_refused}
use Rattle.heco_sample.proofs.source.circuit.Goals as goal

pub not_compiled-requires : goal.not_compiled-requires
not_compiled-requires c = not_refused c.args.typed.now c.requires c.in-Err.error c.in-Err.ensures.err
