use Rattle.std.proofs.Common.{◌-◌, length}
use Rattle.heco_lex.proofs.Advances.{Advanced}
use Rattle.heco_lex.proofs.split.tokens.Given as goal

abbrev pub decreases-loop-at : goal.decreases-loop-at
decreases-loop-at l = length l.text - l.at

abbrev pub invariant-loop-at : goal.invariant-loop-at
invariant-loop-at l = Advanced l.text l.at l.tokens
