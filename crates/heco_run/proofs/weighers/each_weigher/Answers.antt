use Rattle.heco_run_laws.proofs.CircuitVectors.{circuit_formed}
use Rattle.heco_run.proofs.weighers.each_weigher.Goals as goal

pub all_weighers-requires : goal.all_weighers-requires
all_weighers-requires c = rw (c.in_ok-table.ensures, c.as_slice-vectors.ensures, c.vectors.ensures) (circuit_formed c.args.p.now c.args.c.now c.requires c.preset-valid.ensures.valid)
