use Rattle.std.proofs.Common.{◌&&◌, ltb}
use Rattle.heco_marks.specs.Trees.{AreLeaves}
use Rattle.heco_marks.specs.Marks.{flag_at}
use Rattle.heco_marks.proofs.tree.set_leaves.Given as goal

abbrev pub invariant-loop-number : goal.invariant-loop-number
invariant-loop-number l = AreLeaves l.leaves (λ x. ltb x l.number && flag_at l.flags x) l.counts.items
