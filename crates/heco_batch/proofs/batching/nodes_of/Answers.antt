use Rattle.std.proofs.Common.{arith}
use Rattle.heco_batch.proofs.RootsAdded.{before, copied_next, copied_all}
use Rattle.heco_batch.proofs.batching.nodes_of.Goals as goal

pub push-requires-clause-earlier : goal.push-requires-clause-earlier
push-requires-clause-earlier c = (before c.args.c.now c.loop-i.nodes c.loop-i.i c.get.result c.len-i-end.ensures.earlier c.loop-i.invariant c.get.ensures).1

pub push-requires-clause-room : goal.push-requires-clause-room
push-requires-clause-room c = omega (arith, (before c.args.c.now c.loop-i.nodes c.loop-i.i c.get.result c.len-i-end.ensures.earlier c.loop-i.invariant c.get.ensures).0)

pub loop-i-preserved : goal.loop-i-preserved
loop-i-preserved c = copied_next c.args.c.now c.loop-i.nodes _ c.loop-i.i c.get.result c.loop-i.invariant c.get.ensures c.in_ok-push.ensures.grown

pub returns : goal.returns
returns c = copied_all c.args.c.now c.loop-i.nodes c.loop-i.i c.loop-i.invariant (omega arith)
