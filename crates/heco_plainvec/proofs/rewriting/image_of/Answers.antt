use Rattle.std.proofs.Common.{◌∙◌, ap, sym}
use Rattle.std.specs.Prelude.{Some}
use Rattle.heco_circuit.specs.declared.gate.Gate.TheVariants.{Weigh}
use Rattle.heco_plainvec.proofs.Whole.{valid, earlier}
use Rattle.heco_plainvec.proofs.OneImage.{replaced, unreplaced, weigh_stands, none_stands, same_stands}
use Rattle.heco_plainvec.proofs.rewriting.image_of.Goals as goal

pub returns-then-r-wire : goal.returns-then-r-wire
returns-then-r-wire c =
    let k = c.args.c.now in
    let r = c.in-Some.r in
    let i = replaced k c.args.wire c.args.gate r c.requires.here (sym c.in-Some.ensures) in
    let w = weigh_stands k c.args.names.now c.args.wire c.args.gate r (earlier k (valid k c.preset-valid.ensures.valid)) i c.requires.names c.if-r-wire.true in
    (w.0 ∙ ap (λ a. Some (Weigh r.product.vector a)) (sym c.name_at.ensures), w.1)

pub returns-else-r-wire : goal.returns-else-r-wire
returns-else-r-wire c =
    let k = c.args.c.now in
    let r = c.in-Some.r in
    none_stands k c.args.wire c.args.gate r (replaced k c.args.wire c.args.gate r c.requires.here (sym c.in-Some.ensures)) c.if-r-wire.false

pub returns-in-None : goal.returns-in-None
returns-in-None c =
    let k = c.args.c.now in
    let s = unreplaced k c.args.wire c.args.gate c.requires.here (sym c.in-None.ensures) in
    let w = same_stands k c.args.names.now c.args.wire c.args.gate (earlier k (valid k c.preset-valid.ensures.valid)) c.requires.here s c.requires.names in
    (w.0 ∙ ap Some (sym c.over.ensures), w.1)
