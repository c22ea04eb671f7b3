use Rattle.std.proofs.Common.{◌≡◌, ◌++◌, ◌+◌, false, get_or, sym, subst, drop}
use Rattle.std.specs.Prelude.{All}
use Rattle.heco_products.specs.Decrypting.{behind_next, decrypted_wires}
use Rattle.heco_products.proofs.Products.{wires_push, behind_all}
use Rattle.heco_scheme.specs.Ciphertexts.{IsCiphertext}
use Rattle.heco_slots.specs.Rows.{first_row, second_row}
use Rattle.heco_products.proofs.both_rows.decrypt_both.Goals as goal

pub loop-wire-preserved : goal.loop-wire-preserved
loop-wire-preserved c =
    let p = c.args.key.now.preset in
    let s = c.args.key.now.places in
    let wires = c.args.wires.now in
    let i = c.loop-wire.wire-index in
    let left = c.loop-wire.left.now in
    let whole = decrypted_wires p first_row s wires c.args.results.now in
    let other = decrypted_wires p (second_row p) s wires c.args.results.now in
    record {
      preset = c.wire_rows.ensures.scratch;
      ciphertexts = subst (All (IsCiphertext p.n)) (sym c.behind_next-left.ensures) (behind_all (IsCiphertext p.n) _ left c.loop-wire.invariant.ciphertexts);
      first = subst (λ left. c.push.new.self ++ decrypted_wires p first_row s (drop (i + 1) wires) left ≡ whole) (sym c.behind_next-left.ensures)
          (subst (λ rows. rows ++ decrypted_wires p first_row s (drop (i + 1) wires) (behind_next (get_or wires i false) left) ≡ whole) (sym c.in_ok-push.ensures.ok)
          (wires_push p first_row s wires i left c.loop-wire.first c.in_ok-row.row whole c.loop-wire-test.true c.in_ok-row.ensures.first c.loop-wire.invariant.first));
      second = subst (λ left. c.push-in-loop-wire.new.self ++ decrypted_wires p (second_row p) s (drop (i + 1) wires) left ≡ other) (sym c.behind_next-left.ensures)
          (subst (λ rows. rows ++ decrypted_wires p (second_row p) s (drop (i + 1) wires) (behind_next (get_or wires i false) left) ≡ other) (sym c.in_ok-push-2.ensures.ok)
          (wires_push p (second_row p) s wires i left c.loop-wire.second c.in_ok-row.other other c.loop-wire-test.true c.in_ok-row.ensures.second c.loop-wire.invariant.second));
    }
