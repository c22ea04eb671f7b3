use Rattle.heco_ir.proofs.Means.{Passing-at, Passing-next, Passing-renamed}
use Rattle.heco_ir.proofs.pass.rewrite_all.Goals as goal

pub rename-n-requires : goal.rename-n-requires
rename-n-requires g c = rw c.deref.ensures.value (Passing-at c.loop-i.invariant c.len-i-end.ensures.earlier _ c.node.ensures)

pub rewrite-requires-clause-earlier : goal.rewrite-requires-clause-earlier
rewrite-requires-clause-earlier g c =
    rw (c.rename-n.ensures.operands, c.deref.ensures.value)
    (Passing-renamed c.loop-i.invariant (g.D.Dialect.operands_of c.node.result) (Passing-at c.loop-i.invariant c.len-i-end.ensures.earlier _ c.node.ensures))

pub loop-i-preserved : goal.loop-i-preserved
loop-i-preserved g c =
    Passing-next c.loop-i.invariant c.len-i-end.ensures.earlier c.node.ensures
    (rw c.deref.ensures.value at c.rename-n.ensures.operands) c.rename-n.ensures.value
    c.in_ok-id.ensures.stands c.in_ok-id.ensures.within c.in_ok-id.ensures.means c.in_ok-push.ensures.items
