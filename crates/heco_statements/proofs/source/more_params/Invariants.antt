use Rattle.std.proofs.Common.{◌≡◌, ◌-◌, length, [], ◌∷◌}
use Rattle.heco_syntax.specs.Parts.{comma}
use Rattle.heco_statements.specs.Reading.{series, param}
use Rattle.heco_statements.proofs.source.more_params.Given as goal

abbrev pub invariant-loop-turn : goal.invariant-loop-turn
invariant-loop-turn l = series comma (λ at. param) (length l.fn.cursor) (l.fn.first ∷ []) l.fn.cursor ≡ series comma (λ at. param) (l._turn-end - l._turn) l.params l.cursor
