use Rattle.std.proofs.Common.{◌≡◌, ◌++◌, ◌+◌, false, get_or, sym, subst, drop}
use Rattle.std.specs.Prelude.{All}
use Rattle.heco_products.specs.Decrypting.{behind_next, decrypted_wires}
use Rattle.heco_products.proofs.Products.{wires_push, behind_all}
use Rattle.heco_scheme.specs.Ciphertexts.{IsCiphertext}
use Rattle.heco_slots.specs.Rows.{first_row}
use Rattle.heco_products.proofs.decrypting.decrypt_wires.Goals as goal

pub loop-wire-preserved : goal.loop-wire-preserved
loop-wire-preserved c =
    let p = c.args.key.now.preset in
    let s = c.args.key.now.places in
    let wires = c.args.wires.now in
    let i = c.loop-wire.wire-index in
    let whole = decrypted_wires p first_row s wires c.args.results.now in
    record {
      preset = c.wire_slots.ensures.scratch;
      ciphertexts = subst (All (IsCiphertext p.n)) (sym c.behind_next-left.ensures) (behind_all (IsCiphertext p.n) _ c.loop-wire.left.now c.loop-wire.invariant.ciphertexts);
      slots = subst (λ left. c.push.new.self ++ decrypted_wires p first_row s (drop (i + 1) wires) left ≡ whole) (sym c.behind_next-left.ensures)
          (subst (λ rows. rows ++ decrypted_wires p first_row s (drop (i + 1) wires) (behind_next (get_or wires i false) c.loop-wire.left.now) ≡ whole) (sym c.in_ok-push.ensures.ok)
          (wires_push p first_row s wires i c.loop-wire.left.now c.loop-wire.rows c.in_ok-row.row whole c.loop-wire-test.true c.in_ok-row.ensures.slots c.loop-wire.invariant.slots));
    }
