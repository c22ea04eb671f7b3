use Rattle.std.proofs.Common.{List, [], get_or, sym, ap, ◌∙◌}
use Rattle.std.proofs.lemmas.List.Elements.{All-get_or}
use Rattle.std.proofs.lemmas.Option.{slice_get-get_or}
use Rattle.heco_keys.proofs.ReadItems.{read_is}
use Rattle.heco_nums.specs.declared.preset.Preset.{Preset}
use Rattle.heco_material.specs.declared.words.EncRow.{EncRow}
use Rattle.heco_material.specs.KeyLists.{IsEncRow}
use Rattle.heco_bfv.proofs.RoundTrip.{decrypted_made_keys}
use Rattle.heco_bfv.proofs.round_trip.decrypt_after_encrypt.Goals as goal

pub encrypt-requires-clause-u : goal.encrypt-requires-clause-u
encrypt-requires-clause-u c = λ r e.
    let p : Preset = c.args.k.now.preset in
    (read_is (IsEncRow p.n p.h p.b) c.args.w.now.rows c.args.i r c.requires.words.rows e).secret.long ∙ sym (ap (λ (x : Preset). x.n) c.in_ok-secret.ensures.preset)

pub encrypt-requires-clause-e1 : goal.encrypt-requires-clause-e1
encrypt-requires-clause-e1 c = λ r e.
    let p : Preset = c.args.k.now.preset in
    (read_is (IsEncRow p.n p.h p.b) c.args.w.now.rows c.args.i r c.requires.words.rows e).first.long ∙ sym (ap (λ (x : Preset). x.n) c.in_ok-secret.ensures.preset)

pub encrypt-requires-clause-e2 : goal.encrypt-requires-clause-e2
encrypt-requires-clause-e2 c = λ r e.
    let p : Preset = c.args.k.now.preset in
    (read_is (IsEncRow p.n p.h p.b) c.args.w.now.rows c.args.i r c.requires.words.rows e).second.long ∙ sym (ap (λ (x : Preset). x.n) c.in_ok-secret.ensures.preset)

no_row : EncRow
no_row = record { u = []; e1 = []; e2 = [] }

pub returns-clause-back : goal.returns-clause-back
returns-clause-back c =
    let p : Preset = c.args.k.now.preset in
    let rows : List EncRow = c.args.w.now.rows in
    let r : EncRow = get_or rows c.args.i no_row in
    let is : IsEncRow p.n p.h p.b (get_or rows c.args.i no_row) = All-get_or (IsEncRow p.n p.h p.b) rows c.args.i no_row c.requires.row c.requires.words.rows in
    c.decrypt.ensures.formula
    ∙ decrypted_made_keys p c.in_ok-secret.eval.preset c.in_ok-secret.secret.preset c.args.k.now.s c.in_ok-secret.secret.places c.args.k.now.e r.u r.e1 r.e2 c.args.k.now.a c.in_ok-secret.eval.p0 c.in_ok-secret.eval.p1 c.args.slots.now c.in_ok-c.c
    c.in_ok-secret.ensures.preset c.in_ok-secret.ensures.secret.0 c.in_ok-secret.ensures.secret.1 c.in_ok-secret.ensures.first c.in_ok-secret.ensures.second
    (c.in_ok-c.ensures.formula r (slice_get-get_or rows c.args.i no_row c.requires.row))
    c.requires.keys.secret c.requires.keys.errors is.secret is.first is.second c.requires.slots c.requires.below
