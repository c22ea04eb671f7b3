use Rattle.std.proofs.Common.{◌≡◌, ◌++◌, drop}
use Rattle.heco_texts.specs.Outputs.{output_text}
use Rattle.heco_texts.proofs.print.text_of.Given as goal

abbrev pub invariant-loop-i : goal.invariant-loop-i
invariant-loop-i l = output_text l.shapes l.rows ≡ l.out ++ output_text (drop l.i l.shapes) (drop l.i l.rows)
