use Rattle.std.proofs.Common.{◌-◌}
use Rattle.std.proofs.lemmas.Result.{err_from_is_err_and}
use Rattle.heco_syntax.specs.Parts.{first_of}
use Rattle.heco_statements.specs.Reading.{statement_from, block}
use Rattle.heco_statements.proofs.Turns.{turn, turn_stops, turn_ends}
use Rattle.heco_statements.proofs.block.+block.Goals as goal

pub body-loop-turn-preserved : goal.body-loop-turn-preserved
body-loop-turn-preserved t c =
    let s = rw c.in-Some.is at c.in_ok-first.ensures in
    turn first_of (statement_from c.args.levels (block c.args.levels c.args.depth)) c.len-turn-end.result c.loop-turn._turn c.loop-turn.found c.loop-turn.cursor c.loop-turn-test.true c.loop-turn.invariant s c.in_ok-x.ensures c.in_ok-push.ensures.ok

pub body-returns-in_default : goal.body-returns-in_default
body-returns-in_default t c =
    let s = rw c.in_default.is at c.in_ok-first.ensures in
    turn_ends first_of (statement_from c.args.levels (block c.args.levels c.args.depth)) (c.len-turn-end.result - c.loop-turn._turn) c.loop-turn.found c.loop-turn.cursor c.loop-turn.invariant s.0 s.1

pub body-returns-in_err-x : goal.body-returns-in_err-x
body-returns-in_err-x t c =
    let s = rw c.in-Some.is at c.in_ok-first.ensures in
    let p = err_from_is_err_and c.from_residual-in_err-x.result c.from_residual-in_err-x.ensures.1 in
    rw (p.1, p.2) (turn_stops first_of (statement_from c.args.levels (block c.args.levels c.args.depth)) c.len-turn-end.result c.loop-turn._turn c.loop-turn.found c.loop-turn.cursor c.statement.new.cursor
    c.in_err-x.field-0.0 c.loop-turn-test.true c.loop-turn.invariant s c.in_err-x.ensures)
