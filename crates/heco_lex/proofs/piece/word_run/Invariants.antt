use Rattle.std.proofs.Common.{◌≡◌, ◌<◌, ℕ, get_or, true}
use Rattle.heco_nums.specs.Words.{is_word_byte}
use Rattle.heco_lex.proofs.piece.word_run.Given as goal

abbrev pub invariant-loop-i : goal.invariant-loop-i
invariant-loop-i l = (k : ℕ) → k < l.i → is_word_byte (get_or l.text k 0) ≡ true
