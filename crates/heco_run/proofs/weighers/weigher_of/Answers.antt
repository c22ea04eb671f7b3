use Rattle.heco_nums.proofs.PresetFacts.{facts}
use Rattle.heco_run_laws.proofs.CircuitVectors.{whole}
use Rattle.heco_run.proofs.weighers.weigher_of.Goals as goal

pub weigher-requires-clause-v : goal.weigher-requires-clause-v
weigher-requires-clause-v c = let p = c.args.table.now.preset in (whole p.t p.slots c.args.vector.now (facts p).t_pos c.requires).0

pub weigher-requires-clause-below : goal.weigher-requires-clause-below
weigher-requires-clause-below c = let p = c.args.table.now.preset in (whole p.t p.slots c.args.vector.now (facts p).t_pos c.requires).1
