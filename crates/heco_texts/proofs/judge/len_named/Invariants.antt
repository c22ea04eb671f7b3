use Rattle.std.proofs.Common.{◌≡◌, drop}
use Rattle.heco_texts.specs.Rules.{len_named}
use Rattle.heco_texts.proofs.judge.len_named.Given as goal

abbrev pub invariant-loop-shape : goal.invariant-loop-shape
invariant-loop-shape l = len_named l.name l.shapes ≡ len_named l.name (drop l.shape-index l.shapes)
