use Rattle.std.proofs.Common.{◌≡◌, ◌∙◌, ◌≤◌, ◌<◌, ap, sym, subst, length, arith}
use Rattle.std.specs.Prelude.{All, IfOk}
use Rattle.heco_key_files.specs.KeyFiles.{lists_of}
use Rattle.heco_nums.specs.Presets.{slots_of}
use Rattle.heco_products.specs.Encrypting.{encrypted_inputs}
use Rattle.heco_products.proofs.CircuitFacts.{few_inputs, short_inputs}
use Rattle.heco_products.proofs.Products.{fit_count, fit_below, fit_short}
use Rattle.heco_products.proofs.encrypting.encrypted_inputs.Goals as goal

pub encrypt_inputs-requires-clause-count : goal.encrypt_inputs-requires-clause-count
encrypt_inputs-requires-clause-count c =
    ap length c.as_slice.ensures ∙ fit_count c.args.key.now.preset.t c.args.circuit.now.inputs c.args.inputs.now.rows c.requires.fit ∙ sym c.requires.within.count

pub encrypt_inputs-requires-clause-few : goal.encrypt_inputs-requires-clause-few
encrypt_inputs-requires-clause-few c =
    omega (arith, ap length c.as_slice.ensures, fit_count c.args.key.now.preset.t c.args.circuit.now.inputs c.args.inputs.now.rows c.requires.fit, few_inputs c.args.circuit.now c.preset-valid.ensures.valid)

pub encrypt_inputs-requires-clause-short : goal.encrypt_inputs-requires-clause-short
encrypt_inputs-requires-clause-short c =
    let p = c.args.key.now.preset in
    let slots : p.slots ≡ slots_of c.args.circuit.now.preset = p.row.3 ∙ ap slots_of c.requires.preset in
    subst (All (λ row. length row ≤ p.slots)) (sym c.as_slice.ensures)
    (fit_short p.t p.slots c.args.circuit.now.inputs c.args.inputs.now.rows c.requires.fit (subst (λ n. All (λ s. s.len ≤ n) c.args.circuit.now.inputs) (sym slots) (short_inputs c.args.circuit.now c.preset-valid.ensures.valid)))

pub encrypt_inputs-requires-clause-below : goal.encrypt_inputs-requires-clause-below
encrypt_inputs-requires-clause-below c =
    let t = c.args.key.now.preset.t in
    subst (All (λ row. All (λ x. x < t) row)) (sym c.as_slice.ensures) (fit_below t c.args.circuit.now.inputs c.args.inputs.now.rows c.requires.fit)

pub returns-clause-formula : goal.returns-clause-formula
returns-clause-formula c =
    let p = c.args.key.now.preset in
    let all = encrypted_inputs p (lists_of c.args.key.now) c.args.material.now.rows in
    subst (λ rows. IfOk c.encrypt_inputs.result (λ cs. cs.items ≡ all rows)) c.as_slice.ensures c.encrypt_inputs.ensures.formula
