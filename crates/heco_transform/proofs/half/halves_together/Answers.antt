use Rattle.heco_transform.proofs.Words.{whole_is}
use Rattle.heco_transform.proofs.half.halves_together.Goals as goal

pub returns : goal.returns
returns c = whole_is c.args.x c.args.low c.args.high
