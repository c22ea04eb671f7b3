use Rattle.std.proofs.Common.{◌∙◌, Some, length, map, sym, ap, subst}
use Rattle.heco_ciphertext_files.specs.CiphertextFiles.{AreCiphertexts}
use Rattle.heco_headline.specs.Exec.{files_of, text_of}
use Rattle.heco_key_files.specs.KeyFiles.{lists_of as eval_lists_of}
use Rattle.heco_material.specs.KeyLists.{lists_of, IsEncMaterial}
use Rattle.heco_nums.specs.declared.preset.Preset.{Preset}
use Rattle.heco_products.specs.Decrypting.{output_wire_count, outputs_text}
use Rattle.heco_products.specs.Encrypting.{messages_file}
use Rattle.heco_products.specs.KeyProducts.{evaluation_file}
use Rattle.heco_nums.specs.PresetRows.{preset_of}
use Rattle.heco_run_laws.specs.Messages.{input_message}
use Rattle.heco_tasks.proofs.MadeFileLaws.{made_keys_serve}
use Rattle.heco_tasks.specs.Running.{HasKeys}
use Rattle.heco_texts.specs.Answers.{HaveFit}
use Rattle.heco_exec.specs.Chain.{numbered}
use Rattle.heco_exec.proofs.ChainLaws.{IsMade, inputs_are, made_files, made_inputs, made_result}
use Rattle.heco_exec.proofs.chain.chain_product.Goals as goal

pub encrypted_inputs-requires-clause-preset : goal.encrypted_inputs-requires-clause-preset
encrypted_inputs-requires-clause-preset g c = ap (λ (p : Preset). p.id) c.in_ok-secret.ensures.preset ∙ c.requires.runs.provided.preset

pub encrypted_inputs-requires-clause-kept : goal.encrypted_inputs-requires-clause-kept
encrypted_inputs-requires-clause-kept g c = c.requires.kept ∙ sym c.in_ok-secret.ensures.preset

pub encrypted_inputs-requires-clause-within : goal.encrypted_inputs-requires-clause-within
encrypted_inputs-requires-clause-within g c =
    subst (λ (p : Preset). IsEncMaterial p.n p.h p.b (length c.args.circuit.now.inputs) c.args.material.now.rows) (sym c.in_ok-secret.ensures.preset) c.requires.runs.provided.words

pub encrypted_inputs-requires-clause-fit : goal.encrypted_inputs-requires-clause-fit
encrypted_inputs-requires-clause-fit g c = subst (λ (p : Preset). HaveFit p.t c.args.circuit.now.inputs c.args.values.now.rows) (sym c.in_ok-secret.ensures.preset) c.requires.runs.fit

pub run_files-requires-clause-same : goal.run_files-requires-clause-same
run_files-requires-clause-same g c = c.in_ok-secret.ensures.secret.0 ∙ sym c.in_ok-secret.ensures.preset

pub run_files-requires-clause-preset : goal.run_files-requires-clause-preset
run_files-requires-clause-preset g c = ap (λ (p : Preset). p.id) c.in_ok-secret.ensures.preset ∙ c.requires.runs.provided.preset

pub run_files-requires-clause-keys : goal.run_files-requires-clause-keys
run_files-requires-clause-keys g c =
    subst (HasKeys c.args.circuit.now) (sym c.in_ok-secret.ensures.evaluation) (made_keys_serve (preset_of c.args.circuit.now.preset) c.args.circuit.now (lists_of c.args.k.now))

pub run_files-requires-clause-inputs : goal.run_files-requires-clause-inputs
run_files-requires-clause-inputs g c =
    let circuit = c.args.circuit.now in
    let p : Preset = preset_of circuit.preset in
    let k = lists_of c.args.k.now in
    let rows = c.args.values.now.rows in
    let words = c.args.material.now.rows in
    let made = c.in_ok-secret.ensures in
    let items = c.in_ok-inputs.inputs.items in
    let is = made_inputs p circuit k words rows c.in_ok-secret.key.preset (eval_lists_of c.in_ok-secret.key) items made.preset made.evaluation c.in_ok-inputs.ensures.formula in
    subst (λ (q : Preset). AreCiphertexts q.n (length circuit.inputs) items) (sym made.preset)
    (subst (AreCiphertexts p.n (length circuit.inputs)) (sym is) (inputs_are p circuit k words rows c.requires.runs))

pub outputs_text-requires : goal.outputs_text-requires
outputs_text-requires g c =
    let made = c.in_ok-secret.ensures in
    let count = output_wire_count c.args.circuit.now in
    subst (λ q. AreCiphertexts q.n count c.as_slice.result.now) (made.preset ∙ sym made.secret.0)
    (subst (AreCiphertexts c.in_ok-secret.key.preset.n count) (sym c.as_slice.ensures) c.in_ok-writes.ensures.ciphertexts)

pub returns-clause-yields : goal.returns-clause-yields
unfolding files_of text_of evaluation_file messages_file
returns-clause-yields g c =
    let circuit = c.args.circuit.now in
    let p : Preset = preset_of circuit.preset in
    let k = lists_of c.args.k.now in
    let rows = c.args.values.now.rows in
    let words = c.args.material.now.rows in
    let messages = map (input_message p) rows in
    let made = c.in_ok-secret.ensures in
    let secret = c.in_ok-secret.secret in
    let key = c.in_ok-secret.key in
    let e = eval_lists_of key in
    let items = c.in_ok-inputs.inputs.items in
    let all : IsMade p circuit k words messages key.preset secret.places e items = record {
      preset = made.preset;
      secret = made.secret.1;
      lists = made.evaluation;
      encrypted = made_inputs p circuit k words rows key.preset e items made.preset made.evaluation c.in_ok-inputs.ensures.formula;
    } in
    let results = c.as_slice.ensures ∙ c.in_ok-writes.ensures.results ∙ made_result p circuit k words messages key.preset secret.places e items all in
    let text = c.in_ok-text.ensures ∙ ap (λ q. outputs_text q circuit secret.places c.as_slice.result.now) made.secret.0 ∙ ap (λ x. outputs_text p circuit x c.as_slice.result.now) made.secret.1 ∙ ap (outputs_text p circuit k.s) results in
    record {
      writes = c.in_ok-writes.ensures.writes ∙ ap (numbered 5) (made_files p circuit k words messages key.preset secret.places e items all);
      text = ap (λ t. Some t) text;
    }
