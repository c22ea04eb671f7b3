use Rattle.std.proofs.Common.{length}
use Rattle.heco_texts.proofs.NumberLaws.{Counted}
use Rattle.heco_texts.proofs.number.first_number.Given as goal

abbrev pub invariant-loop-rest : goal.invariant-loop-rest
invariant-loop-rest l = Counted l.value l.rest l.text

abbrev pub decreases-loop-rest : goal.decreases-loop-rest
decreases-loop-rest l = length l.rest
