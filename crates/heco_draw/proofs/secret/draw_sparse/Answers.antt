use Rattle.heco_draw.proofs.Placed.{drawn_within}
use Rattle.heco_draw.proofs.secret.draw_sparse.Goals as goal

pub returns-clause-within : goal.returns-clause-within
returns-clause-within c = drawn_within c.args.rng.now c.args.n c.args.h c.in_ok-secret.secret c.requires.n c.in_ok-secret.ensures.places
