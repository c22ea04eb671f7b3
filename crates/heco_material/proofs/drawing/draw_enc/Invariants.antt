use Rattle.std.proofs.Common.{◌*◌, ◌+◌}
use Rattle.heco_draw.specs.Words.{ahead, start}
use Rattle.heco_draw.proofs.Drawn.{Drawing}
use Rattle.heco_material.specs.KeyLists.{IsEncRow}
use Rattle.heco_material.specs.Drawn.{drawn_encryption}
use Rattle.heco_material.proofs.drawing.draw_enc.Given as goal

abbrev pub invariant-loop-i : goal.invariant-loop-i
invariant-loop-i l = Drawing (λ i. drawn_encryption (ahead (start l.seed 2) ((l.p.h + 2 * l.p.n) * i)) l.p.n l.p.h l.p.b) (IsEncRow l.p.n l.p.h l.p.b) (start l.seed 2) (l.p.h + 2 * l.p.n) l.i l.rows l.rng
