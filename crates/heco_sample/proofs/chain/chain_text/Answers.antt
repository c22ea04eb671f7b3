use Rattle.std.proofs.Common.{◌∙◌, length, sym, ap, subst}
use Rattle.heco_ciphertext_files.specs.CiphertextFiles.{AreCiphertexts}
use Rattle.heco_exec.proofs.ChainLaws.{inputs_are}
use Rattle.heco_headline.specs.Exec.{text_of}
use Rattle.heco_key_files.specs.KeyFiles.{lists_of as eval_lists_of}
use Rattle.heco_material.specs.KeyLists.{lists_of, IsEncMaterial}
use Rattle.heco_nums.specs.declared.preset.Preset.{Preset}
use Rattle.heco_products.specs.Decrypting.{output_wire_count, outputs_text}
use Rattle.heco_products.specs.Encrypting.{encrypted_inputs}
use Rattle.heco_products.specs.KeyProducts.{circuit_key}
use Rattle.heco_nums.specs.PresetRows.{preset_of}
use Rattle.heco_products.specs.Results.{keys_of}
use Rattle.heco_run_laws.specs.Results.{results_of}
use Rattle.heco_tasks.proofs.MadeFileLaws.{made_keys_serve}
use Rattle.heco_tasks.specs.Running.{HasKeys}
use Rattle.heco_texts.specs.Answers.{HaveFit}
use Rattle.heco_sample.proofs.chain.chain_text.Goals as goal

pub encrypted_inputs-requires-clause-preset : goal.encrypted_inputs-requires-clause-preset
encrypted_inputs-requires-clause-preset g c = ap (λ (p : Preset). p.id) c.in_ok-secret.ensures.preset ∙ c.requires.runs.provided.preset

pub encrypted_inputs-requires-clause-kept : goal.encrypted_inputs-requires-clause-kept
encrypted_inputs-requires-clause-kept g c = c.requires.kept ∙ sym c.in_ok-secret.ensures.preset

pub encrypted_inputs-requires-clause-within : goal.encrypted_inputs-requires-clause-within
encrypted_inputs-requires-clause-within g c =
    subst (λ (p : Preset). IsEncMaterial p.n p.h p.b (length c.args.circuit.now.inputs) c.args.material.now.rows) (sym c.in_ok-secret.ensures.preset) c.requires.runs.provided.words

pub encrypted_inputs-requires-clause-fit : goal.encrypted_inputs-requires-clause-fit
encrypted_inputs-requires-clause-fit g c = subst (λ (p : Preset). HaveFit p.t c.args.circuit.now.inputs c.args.values.now.rows) (sym c.in_ok-secret.ensures.preset) c.requires.runs.fit

pub run_circuit-requires-clause-preset : goal.run_circuit-requires-clause-preset
run_circuit-requires-clause-preset g c = ap (λ (p : Preset). p.id) c.in_ok-secret.ensures.preset ∙ c.requires.runs.provided.preset

pub run_circuit-requires-clause-keys : goal.run_circuit-requires-clause-keys
run_circuit-requires-clause-keys g c =
    subst (HasKeys c.args.circuit.now) (sym c.in_ok-secret.ensures.evaluation) (made_keys_serve (preset_of c.args.circuit.now.preset) c.args.circuit.now (lists_of c.args.k.now))

pub run_circuit-requires-clause-inputs : goal.run_circuit-requires-clause-inputs
run_circuit-requires-clause-inputs g c =
    let circuit = c.args.circuit.now in
    let p : Preset = preset_of circuit.preset in
    let k = lists_of c.args.k.now in
    let rows = c.args.values.now.rows in
    let words = c.args.material.now.rows in
    let made = c.in_ok-secret.ensures in
    let e = eval_lists_of c.in_ok-secret.key in
    let is = c.in_ok-inputs.ensures.formula ∙ ap (λ q. encrypted_inputs q e words rows) made.preset ∙ ap (λ x. encrypted_inputs p x words rows) made.evaluation in
    subst (λ (q : Preset). AreCiphertexts q.n (length circuit.inputs) c.in_ok-inputs.inputs.items) (sym made.preset)
    (subst (AreCiphertexts p.n (length circuit.inputs)) (sym is) (inputs_are p circuit k words rows c.requires.runs))

pub outputs_text-requires : goal.outputs_text-requires
outputs_text-requires g c =
    let made = c.in_ok-secret.ensures in
    let count = output_wire_count c.args.circuit.now in
    subst (λ q. AreCiphertexts q.n count c.as_slice.result.now) (made.preset ∙ sym made.secret.0)
    (subst (AreCiphertexts c.in_ok-secret.key.preset.n count) (sym c.as_slice.ensures) c.in_ok-results.ensures.ciphertexts)

pub returns-clause-text : goal.returns-clause-text
unfolding text_of
returns-clause-text g c =
    let circuit = c.args.circuit.now in
    let p : Preset = preset_of circuit.preset in
    let k = lists_of c.args.k.now in
    let key = circuit_key p circuit k in
    let rows = c.args.values.now.rows in
    let words = c.args.material.now.rows in
    let made = c.in_ok-secret.ensures in
    let e = eval_lists_of c.in_ok-secret.key in
    let s = c.in_ok-secret.secret.places in
    let items = c.in_ok-inputs.inputs.items in
    let found = c.as_slice.result.now in
    let is = c.in_ok-inputs.ensures.formula ∙ ap (λ q. encrypted_inputs q e words rows) made.preset ∙ ap (λ x. encrypted_inputs p x words rows) made.evaluation in
    let results = c.as_slice.ensures ∙ c.in_ok-results.ensures.results ∙ ap (λ q. results_of q (keys_of e) circuit items) made.preset ∙ ap (λ x. results_of p (keys_of x) circuit items) made.evaluation ∙ ap (results_of p (keys_of key) circuit) is in
    c.in_ok-text.ensures ∙ ap (λ q. outputs_text q circuit s found) made.secret.0 ∙ ap (λ x. outputs_text p circuit x found) made.secret.1 ∙ ap (outputs_text p circuit k.s) results
