use Rattle.std.proofs.Common.{◌≤◌}
use Rattle.heco_marks.specs.Trees.{AreSums, SameLeaves}
use Rattle.heco_marks.proofs.tree.sum_up.Given as goal

abbrev pub invariant-loop-node : goal.invariant-loop-node
invariant-loop-node l = record {
  few : l.node ≤ l.leaves;
  some : 1 ≤ l.node;
  sums : AreSums l.leaves (λ i. l.node ≤ i) l.counts.items;
  same : SameLeaves l.leaves l.fn.counts.items l.counts.items;
}

abbrev pub decreases-loop-node : goal.decreases-loop-node
decreases-loop-node l = l.node
