use Rattle.std.proofs.Common.{◌≡◌, drop}
use Rattle.heco_texts.specs.Rules.{row_named}
use Rattle.heco_texts.proofs.given.row_named.Given as goal

abbrev pub invariant-loop-entry : goal.invariant-loop-entry
invariant-loop-entry l = row_named l.name l.given ≡ row_named l.name (drop l.entry-index l.given)
