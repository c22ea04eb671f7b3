use Rattle.std.proofs.Common.{◌≡◌, ◌-◌, length, []}
use Rattle.heco_syntax.specs.Parts.{def_sign}
use Rattle.heco_statements.specs.Reading.{series, definition_from}
use Rattle.heco_statements.proofs.definition.definitions.Given as goal

abbrev pub invariant-loop-turn : goal.invariant-loop-turn
invariant-loop-turn l = series def_sign (definition_from l.levels) (length l.fn.cursor) [] l.fn.cursor ≡ series def_sign (definition_from l.levels) (l._turn-end - l._turn) l.found l.cursor
