use Rattle.std.proofs.Common.{◌+◌, ◌*◌, ◌<◌, ◌^◌}
use Rattle.heco_draw.specs.Words.{word, long_word}
use Rattle.heco_draw.proofs.Drawn.{Drawing}
use Rattle.heco_draw.proofs.draw.draw_words.Given as goal

abbrev pub invariant-loop-i : goal.invariant-loop-i
invariant-loop-i l = Drawing (λ i. long_word (word l.fn.rng (2 * i)) (word l.fn.rng (2 * i + 1))) (λ x. x < 2 ^ 58) l.fn.rng 2 l.i l.words l.rng
