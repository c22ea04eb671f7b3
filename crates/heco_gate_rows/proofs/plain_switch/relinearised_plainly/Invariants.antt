use Rattle.std.proofs.Common.{◌≡◌, length}
use Rattle.heco_gate_rows.proofs.plain_switch.relinearised_plainly.Given as goal

abbrev pub invariant-loop-i : goal.invariant-loop-i
invariant-loop-i l = (length l.c0 ≡ l.p.n) × (length l.c1 ≡ l.p.n)
