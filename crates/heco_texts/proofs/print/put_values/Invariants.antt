use Rattle.std.proofs.Common.{◌≡◌, ◌++◌, take}
use Rattle.std.specs.List.{flat_map}
use Rattle.heco_texts.specs.Outputs.{value_words}
use Rattle.heco_texts.proofs.print.put_values.Given as goal

abbrev pub invariant-loop-value : goal.invariant-loop-value
invariant-loop-value l = l.out ≡ l.fn.out ++ flat_map value_words (take l.value-index l.row)
