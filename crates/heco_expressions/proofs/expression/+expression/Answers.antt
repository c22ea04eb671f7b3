use Rattle.heco_syntax.specs.Parts.{comma, sum_sign, sum_part, product_sign, product_part}
use Rattle.heco_expressions.specs.Reading.{factor, product, sum}
use Rattle.heco_expressions.proofs.Turns.{turn}
use Rattle.heco_expressions.proofs.expression.+expression.Goals as goal

pub factors-loop-turn-preserved : goal.factors-loop-turn-preserved
factors-loop-turn-preserved t c = turn product_sign product_part (factor c.args.levels) c.len-turn-end.result c.loop-turn._turn c.loop-turn.found c.loop-turn.cursor c.loop-turn-test.true c.loop-turn.invariant c.in-Some.ensures c.in_ok-of.ensures c.in_ok-push.ensures.ok

pub products-loop-turn-preserved : goal.products-loop-turn-preserved
products-loop-turn-preserved t c = turn sum_sign sum_part (product (factor c.args.levels)) c.len-turn-end.result c.loop-turn._turn c.loop-turn.found c.loop-turn.cursor c.loop-turn-test.true c.loop-turn.invariant c.in-Some.ensures c.in_ok-of.ensures c.in_ok-push.ensures.ok

pub further-loop-turn-preserved : goal.further-loop-turn-preserved
further-loop-turn-preserved t c = turn comma (λ at x. x) (sum (factor c.args.levels)) c.len-turn-end.result c.loop-turn._turn c.loop-turn.found c.loop-turn.cursor c.loop-turn-test.true c.loop-turn.invariant c.in-Some.ensures c.in_ok-x.ensures c.in_ok-push-2.ensures.ok
