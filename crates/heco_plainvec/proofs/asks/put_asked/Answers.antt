use Rattle.std.proofs.Common.{◌≡◌, ◌++◌, List, [], ◌∷◌, ap, sym, ◌∙◌, get_or, cond, eqb, Bool, true, false}
use Rattle.std.proofs.lemmas.List.{append-nil}
use Rattle.std.proofs.lemmas.Result.{on_ok_weaker}
use Rattle.heco_plainvec.specs.declared.multiple.Asked.{Asked}
use Rattle.heco_plainvec.specs.Gathering.{multiples, asked_by}
use Rattle.heco_plainvec.proofs.AskedOne.{asked_one, asks_where}
use Rattle.heco_plainvec.proofs.asks.put_asked.Goals as goal

behind : (xs ys : List Asked) (y : Asked) (b : Bool) → ys ≡ cond b (y ∷ []) [] → cond b (xs ++ y ∷ []) xs ≡ xs ++ ys
behind xs ys y true e = ap (λ zs. xs ++ zs) (sym e)
behind xs ys y false e = sym (ap (λ zs. xs ++ zs) e ∙ append-nil xs)

pub returns-in-Some-clause-each : goal.returns-in-Some-clause-each
returns-in-Some-clause-each c =
    let k = c.args.c.now in
    let s = c.in-Some.s in
    on_ok_weaker c.put_at.result (λ h a l.
    h a l ∙ behind (get_or c.args.asks.now.items a []) (asked_by (multiples k a) c.args.cell) (record { slot = c.in-Slot.slot; by = s.by }) (eqb s.of a)
    (ap (asked_by (multiples k a)) c.in-Slot.is ∙ asked_one k a c.in-Slot.wire c.in-Slot.slot ∙ ap (asks_where a c.in-Slot.slot) (sym c.in-Some.ensures)))
    c.put_at.ensures.each

pub returns-in-None-clause-each : goal.returns-in-None-clause-each
returns-in-None-clause-each c = λ a l.
    let k = c.args.c.now in
    let e = ap (asked_by (multiples k a)) c.in-Slot.is ∙ asked_one k a c.in-Slot.wire c.in-Slot.slot ∙ ap (asks_where a c.in-Slot.slot) (sym c.in-None.ensures) in
    sym (ap (λ zs. get_or c.args.asks.now.items a [] ++ zs) e ∙ append-nil (get_or c.args.asks.now.items a []))
