use Rattle.std.proofs.Common.{◌≡◌, ◌++◌, drop}
use Rattle.heco_print.specs.Lines.{spaced_text}
use Rattle.heco_print.proofs.line.put_spaced.Given as goal

abbrev pub invariant-loop-token : goal.invariant-loop-token
invariant-loop-token l = l.fn.out ++ spaced_text l.tokens ≡ l.out ++ spaced_text (drop l.token-index l.tokens)
