use Rattle.std.proofs.Common.{◌≡◌, ◌+◌, ◌*◌, ◌-◌, length, []}
use Rattle.heco_syntax.specs.Parts.{first_of}
use Rattle.heco_statements.specs.Reading.{series, statement_from, block}
use Rattle.heco_statements.proofs.block.+block.Given as goal

abbrev pub decreases-block : goal.decreases-block
decreases-block l = 5 * l.depth

abbrev pub decreases-loop_statement : goal.decreases-loop_statement
decreases-loop_statement l = 5 * l.depth + 1

abbrev pub decreases-otherwise : goal.decreases-otherwise
decreases-otherwise l = 5 * l.depth + 1

abbrev pub decreases-choice : goal.decreases-choice
decreases-choice l = 5 * l.depth + 2

abbrev pub decreases-statement : goal.decreases-statement
decreases-statement l = 5 * l.depth + 3

abbrev pub decreases-body : goal.decreases-body
decreases-body l = 5 * l.depth + 4

abbrev pub invariant-body-loop-turn : goal.invariant-body-loop-turn
invariant-body-loop-turn l = series first_of (statement_from l.levels (block l.levels l.depth)) (length l.fn.cursor) [] l.fn.cursor
    ≡ series first_of (statement_from l.levels (block l.levels l.depth)) (l._turn-end - l._turn) l.found l.cursor
