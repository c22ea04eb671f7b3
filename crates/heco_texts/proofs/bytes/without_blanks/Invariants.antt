use Rattle.std.proofs.Common.{◌≡◌, ◌≤◌, length}
use Rattle.heco_texts.specs.Kinds.{without_blanks}
use Rattle.heco_texts.proofs.bytes.without_blanks.Given as goal

abbrev pub invariant-loop-rest : goal.invariant-loop-rest
invariant-loop-rest l = record {
  bare : without_blanks l.rest ≡ without_blanks l.text;
  shorter : length l.rest ≤ length l.text;
}

abbrev pub decreases-loop-rest : goal.decreases-loop-rest
decreases-loop-rest l = length l.rest
