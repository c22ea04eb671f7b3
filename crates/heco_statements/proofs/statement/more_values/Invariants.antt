use Rattle.std.proofs.Common.{◌≡◌, ◌-◌, length, [], ◌∷◌}
use Rattle.heco_syntax.specs.Parts.{comma}
use Rattle.heco_statements.specs.Reading.{series, expression}
use Rattle.heco_statements.proofs.statement.more_values.Given as goal

abbrev pub invariant-loop-turn : goal.invariant-loop-turn
invariant-loop-turn l = series comma (λ at. expression l.levels) (length l.fn.cursor) (l.fn.first ∷ []) l.fn.cursor
    ≡ series comma (λ at. expression l.levels) (l._turn-end - l._turn) l.values l.cursor
