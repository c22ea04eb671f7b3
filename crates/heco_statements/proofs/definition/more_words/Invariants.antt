use Rattle.std.proofs.Common.{◌≡◌, ◌-◌, length, [], ◌∷◌}
use Rattle.heco_syntax.specs.Parts.{comma}
use Rattle.heco_expressions.specs.Reading.{word}
use Rattle.heco_statements.specs.Reading.{series}
use Rattle.heco_statements.proofs.definition.more_words.Given as goal

abbrev pub invariant-loop-turn : goal.invariant-loop-turn
invariant-loop-turn l = series comma (λ at. word) (length l.fn.cursor) (l.fn.first ∷ []) l.fn.cursor ≡ series comma (λ at. word) (l._turn-end - l._turn) l.words l.cursor
