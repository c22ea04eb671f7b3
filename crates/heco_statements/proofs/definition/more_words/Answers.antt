use Rattle.std.proofs.Common.{◌-◌}
use Rattle.std.proofs.lemmas.Result.{err_from_is_err_and}
use Rattle.heco_syntax.specs.Parts.{comma}
use Rattle.heco_expressions.specs.Reading.{word}
use Rattle.heco_statements.proofs.Turns.{turn, turn_stops, turn_ends}
use Rattle.heco_statements.proofs.definition.more_words.Goals as goal

pub loop-turn-preserved : goal.loop-turn-preserved
loop-turn-preserved c = turn comma (λ at. word) c.len-turn-end.result c.loop-turn._turn c.loop-turn.words c.loop-turn.cursor c.loop-turn-test.true c.loop-turn.invariant c.in-Some.ensures c.in_ok-x.ensures c.in_ok-push-2.ensures.ok

pub returns-in_default : goal.returns-in_default
returns-in_default c = turn_ends comma (λ at. word) (c.len-turn-end.result - c.loop-turn._turn) c.loop-turn.words c.loop-turn.cursor c.loop-turn.invariant c.in_default.ensures.0 c.in_default.ensures.1

pub returns-in_err-x : goal.returns-in_err-x
returns-in_err-x c =
    let p = err_from_is_err_and c.from_residual-in_err-x.result c.from_residual-in_err-x.ensures.1 in
    rw (p.1, p.2) (turn_stops comma (λ at. word) c.len-turn-end.result c.loop-turn._turn c.loop-turn.words c.loop-turn.cursor c.word.new.self
    c.in_err-x.field-0.0 c.loop-turn-test.true c.loop-turn.invariant c.in-Some.ensures c.in_err-x.ensures)
