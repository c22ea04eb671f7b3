use Rattle.heco_material.proofs.DrawnKeys.{lists_drawn}
use Rattle.heco_material.proofs.drawing.draw_lists.Goals as goal

pub returns-clause-lists : goal.returns-clause-lists
returns-clause-lists c =
    let p = c.args.p.now in
    lists_drawn c.args.rng.now c.draw_sparse.new.rng c.draw_words.new.rng c.draw_errors.new.rng p.n p.h p.b c.args.count c.in_ok-s.s c.in_ok-a.a c.in_ok-e.e c.in_ok-switch.switch
    c.in_ok-s.ensures.places c.in_ok-s.ensures.rng c.in_ok-a.ensures.words c.in_ok-a.ensures.rng c.in_ok-e.ensures.errors c.in_ok-e.ensures.rng c.in_ok-switch.ensures.switches
