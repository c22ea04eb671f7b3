use Rattle.std.proofs.Common.{arith}
use Rattle.heco_marks.proofs.Building.{built}
use Rattle.heco_marks.proofs.marks.Marks.of.Goals as goal

pub returns-clause-numbers : goal.returns-clause-numbers
returns-clause-numbers c = built _ c.args.flags.now _ _ (omega arith) c.set_leaves.ensures c.sum_up.ensures.same
