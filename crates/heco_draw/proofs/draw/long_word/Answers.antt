use Rattle.std.proofs.Common.{◌≡◌, arith, ◌∙◌}
use Rattle.heco_draw.specs.Words.{word}
use Rattle.heco_draw.proofs.Drawn.{word_there}
use Rattle.heco_draw.proofs.draw.long_word.Goals as goal

pub returns-clause-word : goal.returns-clause-word
returns-clause-word c =
    let low : c.next-low.result ≡ word c.args.rng.now 1 = c.next-low.ensures.word ∙ word_there c.args.rng.now c.next-high.new.rng 1 0 c.next-high.ensures.rng in
    let high = c.next-high.ensures.word in
    omega arith
