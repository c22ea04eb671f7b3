use Rattle.std.proofs.Common.{◌≡◌, ◌+◌, ◌*◌, map, drop, []}
use Rattle.heco_execution.specs.Evaluation.{along, evaluate, sum_part, product_part, in_turn, calls_of}
use Rattle.heco_execution.proofs.Room.{room}
use Rattle.heco_syntax.specs.declared.tree.Expr.{size-Expr}
use Rattle.heco_execution.proofs.expression.+evaluate.Given as goal

abbrev pub invariant-sum-loop-part : goal.invariant-sum-loop-part
invariant-sum-loop-part g l =
    let ops = g.S.Secrets.ops l.m in
    along ops (map (sum_part ops (calls_of ops l.defs)) l.rest) l.names l.initial.v l.initial.p
    ≡ along ops (map (sum_part ops (calls_of ops l.defs)) (drop l.part-index l.rest)) l.names l.v l.p

abbrev pub invariant-product-loop-part : goal.invariant-product-loop-part
invariant-product-loop-part g l =
    let ops = g.S.Secrets.ops l.m in
    along ops (map (product_part ops (calls_of ops l.defs)) l.rest) l.names l.initial.v l.initial.p
    ≡ along ops (map (product_part ops (calls_of ops l.defs)) (drop l.part-index l.rest)) l.names l.v l.p

abbrev pub invariant-in_turn-loop-arg : goal.invariant-in_turn-loop-arg
invariant-in_turn-loop-arg g l =
    let ops = g.S.Secrets.ops l.m in
    in_turn (map (evaluate ops (calls_of ops l.defs)) l.args) l.names [] l.initial.p
    ≡ in_turn (map (evaluate ops (calls_of ops l.defs)) (drop l.arg-index l.args)) l.names l.done l.p

abbrev pub decreases-evaluate : goal.decreases-evaluate
decreases-evaluate g l = room l.defs.now + 3 * goal.size-evaluate g l + 2

abbrev pub decreases-sum : goal.decreases-sum
decreases-sum g l = room l.defs.now + 3 * goal.size-sum g l + 3

abbrev pub decreases-product : goal.decreases-product
decreases-product g l = room l.defs.now + 3 * goal.size-product g l + 3

abbrev pub decreases-called : goal.decreases-called
decreases-called g l = room l.defs.now + 3 * goal.size-called g l + 4

abbrev pub decreases-in_turn : goal.decreases-in_turn
decreases-in_turn g l = room l.defs.now + 3 * goal.size-in_turn g l + 3

abbrev pub decreases-call : goal.decreases-call
decreases-call g l = room l.defs.now

abbrev pub decreases-apply : goal.decreases-apply
decreases-apply g l = room l.before.now + 3 * size-Expr l.d.now.value + 3
