use Rattle.heco_material.proofs.DrawnKeys.{begins}
use Rattle.heco_material.proofs.drawing.draw_keys.Goals as goal

pub draw_lists-requires-clause-rng : goal.draw_lists-requires-clause-rng
draw_lists-requires-clause-rng c = begins c.args.seed 1 c.start-rng.result c.start-rng.ensures
