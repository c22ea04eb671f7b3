use Rattle.std.proofs.Common.{◌≡◌, All, length}
use Rattle.heco_speed.proofs.key.bare_key.Given as goal

abbrev pub invariant-loop-i : goal.invariant-loop-i
invariant-loop-i l = record { count : length l.rows ≡ l.i; long : All (λ r. (length r.0 ≡ l.p.n) × (length r.1 ≡ l.p.n)) l.rows }
