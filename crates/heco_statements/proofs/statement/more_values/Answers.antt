use Rattle.heco_syntax.specs.Parts.{comma}
use Rattle.heco_statements.specs.Reading.{expression}
use Rattle.heco_statements.proofs.Turns.{turn}
use Rattle.heco_statements.proofs.statement.more_values.Goals as goal

pub loop-turn-preserved : goal.loop-turn-preserved
loop-turn-preserved c = turn comma (λ at. expression c.args.levels) c.len-turn-end.result c.loop-turn._turn c.loop-turn.values c.loop-turn.cursor c.loop-turn-test.true c.loop-turn.invariant c.in-Some.ensures c.in_ok-x.ensures c.in_ok-push-2.ensures.ok
