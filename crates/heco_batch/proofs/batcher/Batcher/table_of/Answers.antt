use Rattle.std.proofs.Common.{length, ap, ◌∙◌}
use Rattle.heco_ir.specs.Terms.{scalar_terms}
use Rattle.std.proofs.Common.{take}
use Rattle.heco_batch.specs.Table.{TableIs}
use Rattle.heco_batch.proofs.TableRead.{operands_before, tabled_next, contained, next_proper, room}
use Rattle.heco_batch.proofs.batcher.Batcher.table_of.Goals as goal

pub node-requires-in-loop-i-clause-operands : goal.node-requires-in-loop-i-clause-operands
node-requires-in-loop-i-clause-operands c =
    operands_before c.args.ir.now.0 c.loop-i.i (length c.deref.result.now) c.node.result c.len-i-end.ensures.earlier c.node.ensures
    (ap length c.deref.ensures.value ∙ c.loop-i.invariant.count)

pub loop-i-preserved : goal.loop-i-preserved
loop-i-preserved c =
    let table : TableIs c.loop-i.c c.args.self.slots c.args.self.modulus c.deref.result.now (scalar_terms (take c.loop-i.i c.args.ir.now.0)) =
    rw c.deref.ensures.value c.loop-i.invariant.table_is in
    tabled_next c.node.result c.in_ok-d.d c.loop-i.invariant c.node.ensures c.in_ok-d.ensures.stands c.in_ok-d.ensures.gates
    (c.in_ok-d.ensures.fits c.args.ir.now.0 (contained c.args.ir.now.0 c.loop-i.i c.node.result c.node.ensures) c.loop-i.invariant.fits)
    (c.in_ok-d.ensures.written _ table) c.in_ok-push.ensures.items

pub node-requires-in-loop-i-clause-table : goal.node-requires-in-loop-i-clause-table
node-requires-in-loop-i-clause-table c = (
  scalar_terms (take c.loop-i.i c.args.ir.now.0),
  rw c.deref.ensures.value c.loop-i.invariant.table_is,
  next_proper c.args.ir.now.0 c.loop-i.i c.args.self.slots c.args.self.modulus c.node.result c.args.self.some c.requires.made c.node.ensures,
)

pub node-requires-in-loop-i-clause-room : goal.node-requires-in-loop-i-clause-room
node-requires-in-loop-i-clause-room c = room c.loop-i.invariant c.len-valid.ensures.once c.requires.inputs c.requires.operations
