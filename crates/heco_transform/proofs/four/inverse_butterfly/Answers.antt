use Rattle.std.proofs.Common.{arith}
use Rattle.heco_transform.proofs.Fours.{back_difference}
use Rattle.heco_transform.proofs.four.inverse_butterfly.Goals as goal

pub returns-clause-difference : goal.returns-clause-difference
returns-clause-difference c = back_difference c.args.x c.args.y c.args.s c.args.bound c.times-z.result c.requires.multiple (omega arith) c.times-z.ensures.value
