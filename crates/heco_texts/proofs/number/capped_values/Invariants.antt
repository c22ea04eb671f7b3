use Rattle.std.proofs.Common.{◌≡◌, ◌<◌, length, get_or, false}
use Rattle.heco_texts.specs.Forms.{is_blank}
use Rattle.heco_texts.specs.Numbers.{capped_values}
use Rattle.heco_texts.proofs.NumberLaws.{ahead}
use Rattle.heco_texts.proofs.number.capped_values.Given as goal

abbrev pub invariant-loop-rest : goal.invariant-loop-rest
invariant-loop-rest l = record {
  found : ahead l.values (capped_values l.rest) ≡ capped_values l.text;
  first : 0 < length l.rest → is_blank (get_or l.rest 0 0) ≡ false;
}

abbrev pub decreases-loop-rest : goal.decreases-loop-rest
decreases-loop-rest l = length l.rest
