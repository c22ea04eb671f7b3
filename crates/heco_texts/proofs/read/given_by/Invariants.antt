use Rattle.std.proofs.Common.{length}
use Rattle.heco_texts.proofs.LineLaws.{Reached}
use Rattle.heco_texts.proofs.read.given_by.Given as goal

abbrev pub invariant-loop-rest : goal.invariant-loop-rest
invariant-loop-rest l = Reached l.t l.shapes l.text l.rest l.given l.number

abbrev pub decreases-loop-rest : goal.decreases-loop-rest
decreases-loop-rest l = length l.rest
