use Rattle.std.proofs.Common.{◌≡◌, true, take}
use Rattle.heco_plainvec.specs.Gathering.{agree, vector_of}
use Rattle.heco_plainvec.proofs.filling.vector_of.Given as goal

abbrev pub invariant-loop-ask : goal.invariant-loop-ask
invariant-loop-ask l = record {
  agreed : agree (take l.ask-index l.asks) ≡ true;
  value : l.vector.items ≡ vector_of l.p.id (take l.ask-index l.asks);
}
