use Rattle.std.proofs.Common.{◌∙◌, length, ap}
use Rattle.heco_bfv.proofs.Weighers.{weigher_long}
use Rattle.heco_bfv.proofs.plain_vector.weigher.Goals as goal

pub returns-clause-long : goal.returns-clause-long
returns-clause-long c = ap length c.weigher_into.ensures ∙ weigher_long c.args.table.now.preset c.args.v.now
