use Rattle.std.proofs.Common.{replicate, ap, sym, ◌∙◌, cond, refl}
use Rattle.std.specs.Prelude.{Some, None}
use Rattle.heco_plainvec.specs.Gathering.{vector_of}
use Rattle.heco_plainvec.proofs.Filled.{zeros, IsFilled, one_agrees, one_disagrees}
use Rattle.heco_plainvec.proofs.filling.vector_of.Goals as goal

pub loop-ask-init : goal.loop-ask-init
loop-ask-init c = record {
  agreed = refl;
  value = c.in_ok-vector.ensures.items_if_clones_equal (λ y h. h) ∙ ap (λ n. replicate n 0) c.args.p.now.row.3 ∙ zeros c.args.p.now.id;
}

pub returns-then-not-put_constant : goal.returns-then-not-put_constant
returns-then-not-put_constant c =
    let f : IsFilled c.args.p.now.id c.args.asks.now c.loop-ask.ask-index c.loop-ask.vector.items =
    record { asks_are = c.requires; below = c.loop-ask-test.true; agreed = c.loop-ask.invariant.agreed; value = c.loop-ask.invariant.value } in
    let n = one_disagrees c.args.p.now.id c.args.asks.now c.loop-ask.ask-index c.loop-ask.vector.items _ f (sym c.put_constant.ensures.agrees ∙ c.if-not-put_constant.true) in
    sym (ap (λ b. cond b (Some (vector_of c.args.p.now.id c.args.asks.now)) None) n)

pub loop-ask-preserved : goal.loop-ask-preserved
loop-ask-preserved c =
    let f : IsFilled c.args.p.now.id c.args.asks.now c.loop-ask.ask-index c.loop-ask.vector.items =
    record { asks_are = c.requires; below = c.loop-ask-test.true; agreed = c.loop-ask.invariant.agreed; value = c.loop-ask.invariant.value } in
    let r = one_agrees c.args.p.now.id c.args.asks.now c.loop-ask.ask-index c.loop-ask.vector.items _ _ f (sym c.put_constant.ensures.agrees ∙ c.if-not-put_constant.false)
    (c.put_constant.ensures.put c.if-not-put_constant.false) in
    record { agreed = r.0; value = r.1 }
