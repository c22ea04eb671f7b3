use Rattle.std.proofs.Common.{◌*◌}
use Rattle.heco_draw.specs.Words.{ahead}
use Rattle.heco_draw.proofs.Drawn.{Drawing}
use Rattle.heco_material.specs.KeyLists.{IsSwitch}
use Rattle.heco_material.specs.Drawn.{drawn_switch}
use Rattle.heco_material.proofs.drawing.draw_switches.Given as goal

abbrev pub invariant-loop-i : goal.invariant-loop-i
invariant-loop-i l = Drawing (λ i. drawn_switch (ahead l.fn.rng (87 * l.p.n * i)) l.p.n l.p.b) (IsSwitch l.p.n l.p.b) l.fn.rng (87 * l.p.n) l.i l.switches l.rng
