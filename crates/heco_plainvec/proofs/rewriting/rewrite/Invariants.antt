use Rattle.heco_plainvec.proofs.NextName.{IsFront}
use Rattle.heco_plainvec.proofs.rewriting.rewrite.Given as goal

abbrev pub invariant-loop-i : goal.invariant-loop-i
invariant-loop-i l = IsFront l.c l.i l.names l.gates
