use Rattle.std.proofs.Common.{◌∙◌, sym}
use Rattle.heco_peep.proofs.Asking.{asked_below}
use Rattle.heco_peep.proofs.looking.ask.Goals as goal

pub returns-clause-below : goal.returns-clause-below
returns-clause-below g c =
    let p = c.args.pass.now in
    asked_below c.args.preset.now c.args.inputs c.args.gates.now c.args.at c.window_of-w.result
    ((((Rattle.heco_peep.specs.contracts.looking.ask.dyn-1-ghosts g.dyn-1).0.entry p.vtable).1.handed p.value).rule)
    ((((Rattle.heco_peep.specs.contracts.looking.ask.dyn-1-ghosts g.dyn-1).0.entry p.vtable).1.handed p.value).state) c.look_at.result c.window_of-w.ensures
    (sym c.is_shown.ensures ∙ cc) c.requires c.look_at.ensures.answer
