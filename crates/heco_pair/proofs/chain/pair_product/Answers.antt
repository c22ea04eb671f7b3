use Rattle.std.proofs.Common.{◌∙◌, Some, length, sym, ap, ap₂, subst}
use Rattle.heco_ciphertext_files.specs.CiphertextFiles.{AreCiphertexts}
use Rattle.heco_exec.specs.Chain.{numbered}
use Rattle.heco_exec.proofs.ChainLaws.{IsMade, made_files, made_result, messages_are}
use Rattle.heco_headline.specs.Pair.{pair_files, first_text, second_text}
use Rattle.heco_key_files.specs.KeyFiles.{lists_of as eval_lists_of}
use Rattle.heco_material.specs.KeyLists.{lists_of, IsEncMaterial}
use Rattle.heco_nums.specs.declared.preset.Preset.{Preset}
use Rattle.heco_products.specs.Decrypting.{output_wire_count, row_text}
use Rattle.heco_products.specs.Encrypting.{messages_file}
use Rattle.heco_products.specs.KeyProducts.{evaluation_file}
use Rattle.heco_nums.specs.PresetRows.{preset_of}
use Rattle.heco_run_laws.specs.Carried.{two_row_messages}
use Rattle.heco_slots.specs.Rows.{first_row, second_row}
use Rattle.heco_tasks.proofs.MadeFileLaws.{made_keys_serve}
use Rattle.heco_tasks.specs.Running.{HasKeys}
use Rattle.heco_texts.specs.Answers.{HaveFit}
use Rattle.heco_pair.specs.Texts.{both_texts}
use Rattle.heco_headline.proofs.PairLaw.{many_pairs}
use Rattle.heco_pair.proofs.ChainLaws.{made_pairs}
use Rattle.heco_pair.proofs.chain.pair_product.Goals as goal

pub encrypted_pairs-requires-clause-preset : goal.encrypted_pairs-requires-clause-preset
encrypted_pairs-requires-clause-preset g c = ap (λ (p : Preset). p.id) c.in_ok-secret.ensures.preset ∙ c.requires.runs.on_first.provided.preset

pub encrypted_pairs-requires-clause-kept : goal.encrypted_pairs-requires-clause-kept
encrypted_pairs-requires-clause-kept g c = c.requires.kept ∙ sym c.in_ok-secret.ensures.preset

pub encrypted_pairs-requires-clause-within : goal.encrypted_pairs-requires-clause-within
encrypted_pairs-requires-clause-within g c =
    subst (λ (p : Preset). IsEncMaterial p.n p.h p.b (length c.args.circuit.now.inputs) c.args.material.now.rows) (sym c.in_ok-secret.ensures.preset) c.requires.runs.on_first.provided.words

pub encrypted_pairs-requires-clause-first : goal.encrypted_pairs-requires-clause-first
encrypted_pairs-requires-clause-first g c = subst (λ (p : Preset). HaveFit p.t c.args.circuit.now.inputs c.args.first.now.rows) (sym c.in_ok-secret.ensures.preset) c.requires.runs.on_first.fit

pub encrypted_pairs-requires-clause-second : goal.encrypted_pairs-requires-clause-second
encrypted_pairs-requires-clause-second g c = subst (λ (p : Preset). HaveFit p.t c.args.circuit.now.inputs c.args.second.now.rows) (sym c.in_ok-secret.ensures.preset) c.requires.runs.on_second.fit

pub run_files-requires-clause-same : goal.run_files-requires-clause-same
run_files-requires-clause-same g c = c.in_ok-secret.ensures.secret.0 ∙ sym c.in_ok-secret.ensures.preset

pub run_files-requires-clause-preset : goal.run_files-requires-clause-preset
run_files-requires-clause-preset g c = ap (λ (p : Preset). p.id) c.in_ok-secret.ensures.preset ∙ c.requires.runs.on_first.provided.preset

pub run_files-requires-clause-keys : goal.run_files-requires-clause-keys
run_files-requires-clause-keys g c =
    subst (HasKeys c.args.circuit.now) (sym c.in_ok-secret.ensures.evaluation) (made_keys_serve (preset_of c.args.circuit.now.preset) c.args.circuit.now (lists_of c.args.k.now))

pub run_files-requires-clause-inputs : goal.run_files-requires-clause-inputs
run_files-requires-clause-inputs g c =
    let circuit = c.args.circuit.now in
    let p : Preset = preset_of circuit.preset in
    let k = lists_of c.args.k.now in
    let first = c.args.first.now.rows in
    let second = c.args.second.now.rows in
    let words = c.args.material.now.rows in
    let made = c.in_ok-secret.ensures in
    let items = c.in_ok-inputs.inputs.items in
    let is = made_pairs p circuit k words first second c.in_ok-secret.key.preset (eval_lists_of c.in_ok-secret.key) items made.preset made.evaluation c.in_ok-inputs.ensures.formula in
    subst (λ (q : Preset). AreCiphertexts q.n (length circuit.inputs) items) (sym made.preset)
    (subst (AreCiphertexts p.n (length circuit.inputs)) (sym is)
    (messages_are p circuit k words (two_row_messages p first second) c.requires.runs.on_first.provided (many_pairs circuit k words first second c.requires.runs)))

pub rows_texts-requires : goal.rows_texts-requires
rows_texts-requires g c =
    let made = c.in_ok-secret.ensures in
    let count = output_wire_count c.args.circuit.now in
    subst (λ q. AreCiphertexts q.n count c.as_slice.result.now) (made.preset ∙ sym made.secret.0)
    (subst (AreCiphertexts c.in_ok-secret.key.preset.n count) (sym c.as_slice.ensures) c.in_ok-writes.ensures.ciphertexts)

pub returns-clause-yields : goal.returns-clause-yields
unfolding pair_files first_text second_text evaluation_file messages_file
returns-clause-yields g c =
    let circuit = c.args.circuit.now in
    let p : Preset = preset_of circuit.preset in
    let k = lists_of c.args.k.now in
    let first = c.args.first.now.rows in
    let second = c.args.second.now.rows in
    let words = c.args.material.now.rows in
    let messages = two_row_messages p first second in
    let made = c.in_ok-secret.ensures in
    let secret = c.in_ok-secret.secret in
    let key = c.in_ok-secret.key in
    let e = eval_lists_of key in
    let items = c.in_ok-inputs.inputs.items in
    let found = c.as_slice.result.now in
    let all : IsMade p circuit k words messages key.preset secret.places e items = record {
      preset = made.preset;
      secret = made.secret.1;
      lists = made.evaluation;
      encrypted = made_pairs p circuit k words first second key.preset e items made.preset made.evaluation c.in_ok-inputs.ensures.formula;
    } in
    let results = c.as_slice.ensures ∙ c.in_ok-writes.ensures.results ∙ made_result p circuit k words messages key.preset secret.places e items all in
    let upper = c.in_ok-upper.ensures.first ∙ ap (λ q. row_text q first_row circuit secret.places found) made.secret.0 ∙ ap (λ x. row_text p first_row circuit x found) made.secret.1 ∙ ap (row_text p first_row circuit k.s) results in
    let lower = c.in_ok-upper.ensures.second ∙ ap (λ q. row_text q (second_row q) circuit secret.places found) made.secret.0 ∙ ap (λ x. row_text p (second_row p) circuit x found) made.secret.1
    ∙ ap (row_text p (second_row p) circuit k.s) results in
    record {
      writes = c.in_ok-writes.ensures.writes ∙ ap (numbered 6) (made_files p circuit k words messages key.preset secret.places e items all);
      text = ap (λ t. Some t) (c.in_ok-text.ensures ∙ ap₂ both_texts upper lower);
    }
