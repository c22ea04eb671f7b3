use Rattle.std.proofs.Common.{◌≡◌, All, length}
use Rattle.heco_gate_rows.proofs.plain_switch.drawn_key.Given as goal

abbrev pub invariant-loop-i : goal.invariant-loop-i
invariant-loop-i l = record { count : length l.pairs ≡ l.i; long : All (λ r. (length r.0 ≡ l.p.n) × (length r.1 ≡ l.p.n)) l.pairs }
