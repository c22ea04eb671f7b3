use Rattle.std.proofs.Common.{◌≤◌, length}
use Rattle.heco_ir.specs.Values.{numbers}
use Rattle.heco_cse.specs.Dead.{Marks}
use Rattle.heco_cse.proofs.Marking.{Marking}
use Rattle.heco_cse.proofs.dead.marks_of.Given as goal

abbrev pub invariant-loop-root : goal.invariant-loop-root
invariant-loop-root l = Marking l.initial.marks.items l.marks.items (numbers l.root-items) l.root-index

abbrev pub invariant-loop-i : goal.invariant-loop-i
invariant-loop-i l = Marks l.ir.0 l.ir.1 l.i l.marks.items × (l.i ≤ length l.ir.0)

abbrev pub decreases-loop-i : goal.decreases-loop-i
decreases-loop-i l = l.i
