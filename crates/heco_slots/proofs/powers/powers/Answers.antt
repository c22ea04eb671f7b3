use Rattle.heco_slots.proofs.Tables.{powers_more, next_power}
use Rattle.heco_slots.proofs.powers.powers.Goals as goal

pub loop-preserved : goal.loop-preserved
loop-preserved c = record {
  table = powers_more c.args.x c.args.m c.loop.counter c.loop.power c.loop.table.items c.push.new.self.items c.loop.invariant.table c.loop.invariant.next c.in_ok-push.ensures.items;
  next = next_power c.args.x c.args.m c.loop.counter c.loop.power c.from.result c.from-in-loop.result c.from-in-loop-2.result c.loop.invariant.next c.from.ensures c.from-in-loop.ensures c.from-in-loop-2.ensures;
}
