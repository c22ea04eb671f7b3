use Rattle.std.proofs.Common.{arith}
use Rattle.heco_gate_rows.proofs.DrawnKeys.{rows_of}
use Rattle.heco_gate_rows.proofs.plain_switch.drawn_key.Goals as goal

pub of-requires : goal.of-requires
of-requires c = omega (arith, c.loop-i.invariant.count, c.loop-i.auto.i-end)

pub returns : goal.returns
returns c = rw c.of.ensures (rows_of c.args.p.now.n c.loop-i.pairs (omega (arith, c.loop-i.invariant.count, c.loop-i.auto.i-end)) c.loop-i.invariant.long)
