use Rattle.std.proofs.Common.{◌≡◌, ◌∙◌, ◌++◌, ◌+◌, ◌<◌, ap₂, sym, subst, drop, length, get_or, arith}
use Rattle.std.specs.Prelude.{All}
use Rattle.std.proofs.lemmas.List.Elements.{All-push}
use Rattle.std.proofs.lemmas.Option.{slice_get-get_or}
use Rattle.heco_key_files.specs.KeyFiles.{lists_of}
use Rattle.heco_products.specs.Encrypting.{encrypted_message, encrypted_pairs, pair_message}
use Rattle.heco_products.proofs.Pairs.{pairs_push}
use Rattle.heco_products.proofs.Products.{no_row}
use Rattle.heco_products.proofs.encrypting_pairs.encrypt_pairs.Goals as goal

pub loop-i-preserved : goal.loop-i-preserved
loop-i-preserved c =
    let p = c.args.key.now.preset in
    let key = lists_of c.args.key.now in
    let rows = c.args.material.now.rows in
    let first = c.args.first.now in
    let second = c.args.second.now in
    let i = c.loop-i.i in
    let inside : i < length rows = omega (arith, c.requires.count, c.loop-i-test.true) in
    let beside : i < length second = omega (arith, c.requires.same, c.loop-i-test.true) in
    let values = c.as_slice.ensures ∙ c.index-first-i.is in
    let others = c.as_slice-other.ensures ∙ c.index-second-i.is in
    let is = c.in_ok-c.ensures.formula (get_or rows i no_row) (slice_get-get_or rows i no_row inside) ∙ ap₂ (λ x y. encrypted_message p key (get_or rows i no_row) (pair_message p x y)) values others in
    record {
      two = subst (All (λ c. length c ≡ 2)) (sym c.in_ok-push.ensures.items) (All-push (λ c. length c ≡ 2) c.loop-i.list.items c.in_ok-c.c c.loop-i.invariant.two c.in_ok-c.ensures.count);
      formula = subst (λ cs. cs ++ encrypted_pairs p key (drop (i + 1) rows) (drop (i + 1) first) (drop (i + 1) second) ≡ encrypted_pairs p key rows first second) (sym c.in_ok-push.ensures.items)
          (pairs_push p key rows first second i c.index-first-i.result c.index-second-i.result inside c.loop-i-test.true beside c.loop-i.list.items c.in_ok-c.c (encrypted_pairs p key rows first second) is c.loop-i.invariant.formula);
    }
