use Rattle.heco_peep.specs.Rules.{Handed}
use Rattle.heco_peep.proofs.ByEach.{few_wires, valid_brought, if_ok, is_tried}
use Rattle.heco_peep.proofs.once.tried.Goals as goal

pub brought-requires-clause-few : goal.brought-requires-clause-few
brought-requires-clause-few g c =
    let b = c.args.pass.now in
    let h : Handed = ((Rattle.heco_peep.specs.contracts.once.tried.dyn-1-ghosts g.dyn-1).0.entry b.vtable).1.handed b.value in
    few_wires c.args.p.now c.args.weights.now c.args.c.now h.rule h.state _ c.in_ok-changed.changed c.requires c.in_ok-changed.ensures.looked

pub brought-requires-clause-valid : goal.brought-requires-clause-valid
brought-requires-clause-valid g c =
    let b = c.args.pass.now in
    let h : Handed = ((Rattle.heco_peep.specs.contracts.once.tried.dyn-1-ghosts g.dyn-1).0.entry b.vtable).1.handed b.value in
    valid_brought c.args.p.now c.args.weights.now c.args.c.now h.rule h.state _ c.in_ok-changed.changed c.requires c.in_ok-changed.ensures.looked

pub returns-clause-tried : goal.returns-clause-tried
returns-clause-tried g c =
    let b = c.args.pass.now in
    let h : Handed = ((Rattle.heco_peep.specs.contracts.once.tried.dyn-1-ghosts g.dyn-1).0.entry b.vtable).1.handed b.value in
    if_ok c.brought.result c.brought.ensures (λ d e. is_tried c.args.p.now c.args.c.now d h.rule h.state _ c.in_ok-changed.changed c.in_ok-changed.ensures.looked e)
