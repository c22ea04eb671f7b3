use Rattle.std.proofs.Common.{◌≡◌, ◌^◌, ◌≤◌, ℕ, ◌-◌}
use Rattle.heco_marks.proofs.tree.leaves_for.Given as goal

abbrev pub invariant-loop-leaves : goal.invariant-loop-leaves
invariant-loop-leaves l = (h : ℕ) × (l.leaves ≡ 2 ^ h) × (h ≤ 28)

abbrev pub decreases-loop-leaves : goal.decreases-loop-leaves
decreases-loop-leaves l = l.count - l.leaves
