use Rattle.std.proofs.Common.{◌-◌}
use Rattle.heco_marks.proofs.Descents.{IsDescent}
use Rattle.heco_marks.proofs.marks.Marks.nth.Given as goal

abbrev pub invariant-loop-node : goal.invariant-loop-node
invariant-loop-node l = IsDescent l.self-inside.leaves l.self-inside.counts.items l.k l.node l.left

abbrev pub decreases-loop-node : goal.decreases-loop-node
decreases-loop-node l = l.self-inside.leaves - l.node
