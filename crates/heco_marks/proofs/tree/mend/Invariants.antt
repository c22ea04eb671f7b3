use Rattle.std.proofs.Common.{ℕ}
use Rattle.heco_marks.specs.Trees.{IsTreeBut, SameLeaves}
use Rattle.heco_marks.proofs.tree.mend.Given as goal

abbrev pub invariant-loop-node : goal.invariant-loop-node
invariant-loop-node l = (leaves : ℕ) → IsTreeBut leaves l.fn.counts.items l.fn.from → IsTreeBut leaves l.counts.items l.node × SameLeaves leaves l.fn.counts.items l.counts.items

abbrev pub decreases-loop-node : goal.decreases-loop-node
decreases-loop-node l = l.node
