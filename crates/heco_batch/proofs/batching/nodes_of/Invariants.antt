use Rattle.std.proofs.Common.{◌≡◌, take}
use Rattle.heco_batch.proofs.batching.nodes_of.Given as goal

abbrev pub invariant-loop-i : goal.invariant-loop-i
invariant-loop-i l = l.nodes ≡ take l.i l.c
