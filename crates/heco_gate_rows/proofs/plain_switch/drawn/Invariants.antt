use Rattle.std.proofs.Common.{◌≡◌, length}
use Rattle.heco_gate_rows.proofs.plain_switch.drawn.Given as goal

abbrev pub invariant-loop-k : goal.invariant-loop-k
invariant-loop-k l = length l.a ≡ l.p.n
