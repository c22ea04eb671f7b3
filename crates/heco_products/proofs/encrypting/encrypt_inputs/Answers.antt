use Rattle.std.proofs.Common.{◌≡◌, ◌∙◌, ◌++◌, ◌+◌, ◌<◌, ap, sym, subst, drop, length, get_or, arith}
use Rattle.std.specs.Prelude.{All}
use Rattle.std.proofs.lemmas.List.Elements.{All-push}
use Rattle.std.proofs.lemmas.Option.{slice_get-get_or}
use Rattle.heco_key_files.specs.KeyFiles.{lists_of}
use Rattle.heco_products.specs.Encrypting.{encrypted_input, encrypted_inputs}
use Rattle.heco_products.proofs.Products.{encrypted_push, no_row}
use Rattle.heco_products.proofs.encrypting.encrypt_inputs.Goals as goal

pub loop-i-preserved : goal.loop-i-preserved
loop-i-preserved c =
    let p = c.args.key.now.preset in
    let key = lists_of c.args.key.now in
    let rows = c.args.material.now.rows in
    let inputs = c.args.inputs.now in
    let i = c.loop-i.i in
    let inside : i < length rows = omega (arith, c.requires.count, c.loop-i-test.true) in
    let values = c.as_slice.ensures ∙ c.index-inputs-i.is in
    let is = c.in_ok-encrypt_input.ensures.formula (get_or rows i no_row) (slice_get-get_or rows i no_row inside) ∙ ap (encrypted_input p key (get_or rows i no_row)) values in
    record {
      two = subst (All (λ c. length c ≡ 2)) (sym c.in_ok-push.ensures.items) (All-push (λ c. length c ≡ 2) c.loop-i.list.items c.in_ok-encrypt_input.field-0 c.loop-i.invariant.two c.in_ok-encrypt_input.ensures.count);
      formula = subst (λ cs. cs ++ encrypted_inputs p key (drop (i + 1) rows) (drop (i + 1) inputs) ≡ encrypted_inputs p key rows inputs) (sym c.in_ok-push.ensures.items)
          (encrypted_push p key rows inputs i c.index-inputs-i.result c.loop-i.list.items c.in_ok-encrypt_input.field-0 (encrypted_inputs p key rows inputs) inside c.loop-i-test.true is c.loop-i.invariant.formula);
    }
