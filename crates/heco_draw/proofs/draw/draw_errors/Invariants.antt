use Rattle.std.proofs.Common.{◌≤◌}
use Rattle.std.specs.Int.RustNames.{unsigned_abs}
use Rattle.heco_draw.specs.Words.{word, error}
use Rattle.heco_draw.proofs.Drawn.{Drawing}
use Rattle.heco_draw.proofs.draw.draw_errors.Given as goal

abbrev pub invariant-loop-i : goal.invariant-loop-i
invariant-loop-i l = Drawing (λ i. error l.b (word l.fn.rng i)) (λ z. unsigned_abs z ≤ l.b) l.fn.rng 1 l.i l.errors l.rng
