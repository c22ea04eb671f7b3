use Rattle.std.proofs.Common.{◌∙◌, ap, arith, length, [], List, ℕ}
use Rattle.std.specs.Prelude.{slice_index}
use Rattle.heco_rewrites.specs.Wires.{over}
use Rattle.heco_peep.specs.Looks.{answered}
use Rattle.heco_peep.specs.Rules.{Rule}
use Rattle.heco_peep.proofs.Taking.{on_ok, looks}
use Rattle.heco_peep.proofs.changing.look_one.Goals as goal

pub returns-clause-looked : goal.returns-clause-looked
returns-clause-looked g c =
    let p = c.args.pass.now in
    let q = c.ask-answer.new.pass in
    let r : Rule = (((Rattle.heco_peep.specs.contracts.changing.look_one.dyn-1-ghosts g.dyn-1).0.entry p.vtable).1.handed p.value).rule in
    let before : List ℕ = (((Rattle.heco_peep.specs.contracts.changing.look_one.dyn-1-ghosts g.dyn-1).0.entry p.vtable).1.handed p.value).state in
    let after : List ℕ = (((Rattle.heco_peep.specs.contracts.changing.look_one.dyn-1-ghosts g.dyn-1).0.entry q.vtable).1.handed q.value).state in
    on_ok c.put.result c.put.ensures.taken
    (looks c.args.p.now c.args.inputs.now c.args.weights.now r c.args.changed.now c.put.new.changed c.args.gate c.over-at.result _ c.ask-answer.result before after c.requires.stands
    (c.over-at.ensures ∙ ap (λ ns. over (slice_index ns) c.args.gate) c.as_slice.ensures)
    (omega (arith, c.len.ensures, c.requires.few))
    (c.ask-answer.ensures.answer ∙ ap (λ gs. answered c.args.p.now (length c.args.inputs.now) r c.over-at.result (record { gates = gs; names = []; state = before })) c.as_slice-2.ensures))
