use Rattle.std.proofs.Common.{◌≡◌, ◌∙◌, ap, sym, subst, length, arith}
use Rattle.std.specs.Prelude.{All, IfOk}
use Rattle.heco_key_files.specs.KeyFiles.{lists_of}
use Rattle.heco_run_laws.specs.Carried.{FitsRow}
use Rattle.heco_products.specs.Encrypting.{encrypted_pairs}
use Rattle.heco_products.proofs.CircuitFacts.{few_inputs}
use Rattle.heco_products.proofs.Pairs.{rows_fit}
use Rattle.heco_products.proofs.Products.{fit_count}
use Rattle.heco_products.proofs.encrypting_pairs.encrypted_pairs.Goals as goal

pub encrypt_pairs-requires-clause-count : goal.encrypt_pairs-requires-clause-count
encrypt_pairs-requires-clause-count c =
    ap length c.as_slice.ensures ∙ fit_count c.args.key.now.preset.t c.args.circuit.now.inputs c.args.first.now.rows c.requires.first ∙ sym c.requires.within.count

pub encrypt_pairs-requires-clause-same : goal.encrypt_pairs-requires-clause-same
encrypt_pairs-requires-clause-same c =
    let t = c.args.key.now.preset.t in
    let inputs = c.args.circuit.now.inputs in
    ap length c.as_slice-2.ensures ∙ fit_count t inputs c.args.second.now.rows c.requires.second ∙ sym (ap length c.as_slice.ensures ∙ fit_count t inputs c.args.first.now.rows c.requires.first)

pub encrypt_pairs-requires-clause-few : goal.encrypt_pairs-requires-clause-few
encrypt_pairs-requires-clause-few c =
    omega (arith, ap length c.as_slice.ensures, fit_count c.args.key.now.preset.t c.args.circuit.now.inputs c.args.first.now.rows c.requires.first, few_inputs c.args.circuit.now c.preset-valid.ensures.valid)

pub encrypt_pairs-requires-clause-first : goal.encrypt_pairs-requires-clause-first
encrypt_pairs-requires-clause-first c =
    subst (All (FitsRow c.args.key.now.preset)) (sym c.as_slice.ensures) (rows_fit c.args.key.now.preset c.args.circuit.now c.args.first.now.rows c.requires.preset c.preset-valid.ensures.valid c.requires.first)

pub encrypt_pairs-requires-clause-second : goal.encrypt_pairs-requires-clause-second
encrypt_pairs-requires-clause-second c =
    subst (All (FitsRow c.args.key.now.preset)) (sym c.as_slice-2.ensures) (rows_fit c.args.key.now.preset c.args.circuit.now c.args.second.now.rows c.requires.preset c.preset-valid.ensures.valid c.requires.second)

pub returns-clause-formula : goal.returns-clause-formula
returns-clause-formula c =
    let p = c.args.key.now.preset in
    let all = encrypted_pairs p (lists_of c.args.key.now) c.args.material.now.rows in
    subst (λ rows. IfOk c.encrypt_pairs.result (λ cs. cs.items ≡ all rows c.args.second.now.rows)) c.as_slice.ensures
    (subst (λ rows. IfOk c.encrypt_pairs.result (λ cs. cs.items ≡ all c.as_slice.result.now rows)) c.as_slice-2.ensures c.encrypt_pairs.ensures.formula)
