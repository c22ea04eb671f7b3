use Rattle.std.proofs.Common.{◌*◌}
use Rattle.heco_draw.specs.Words.{ahead}
use Rattle.heco_draw.proofs.Drawn.{Drawing}
use Rattle.heco_material.specs.KeyLists.{IsSwitchRow}
use Rattle.heco_material.specs.Drawn.{drawn_row}
use Rattle.heco_material.proofs.drawing.draw_rows.Given as goal

abbrev pub invariant-loop-i : goal.invariant-loop-i
invariant-loop-i l = Drawing (λ i. drawn_row (ahead l.fn.rng (3 * l.p.n * i)) l.p.n l.p.b) (IsSwitchRow l.p.n l.p.b) l.fn.rng (3 * l.p.n) l.i l.rows l.rng
