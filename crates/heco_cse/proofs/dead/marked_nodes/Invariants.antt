use Rattle.heco_cse.specs.Dead.{Copies}
use Rattle.heco_cse.proofs.dead.marked_nodes.Given as goal

abbrev pub invariant-loop-i : goal.invariant-loop-i
invariant-loop-i l = Copies l.ir.0 l.marks l.i l.out l.ids.items
