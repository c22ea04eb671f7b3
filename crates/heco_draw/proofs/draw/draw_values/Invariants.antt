use Rattle.std.proofs.Common.{◌<◌, ◌%◌}
use Rattle.heco_draw.specs.Words.{word, start}
use Rattle.heco_draw.proofs.Drawn.{Drawing}
use Rattle.heco_draw.proofs.draw.draw_values.Given as goal

abbrev pub invariant-loop-i : goal.invariant-loop-i
invariant-loop-i l = Drawing (λ i. word (start l.seed 3) i % l.p.t) (λ x. x < l.p.t) (start l.seed 3) 1 l.i l.values l.rng
