use Rattle.std.proofs.Common.{◌≡◌, length}
use Rattle.heco_outside.proofs.HeldLaws.{UpTo}
use Rattle.heco_outside.proofs.out_sink.OutSinkSink.write_all.Given as goal

abbrev pub invariant-loop-rest : goal.invariant-loop-rest
invariant-loop-rest g l = (l.self.faults ≡ l.fn.self.faults) × UpTo (g.W.Write.contents l.fn.self.writer) (g.W.Write.contents l.self.writer) l.bytes l.rest

abbrev pub decreases-loop-rest : goal.decreases-loop-rest
decreases-loop-rest g l = length l.rest
