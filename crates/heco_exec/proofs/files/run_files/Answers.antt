use Rattle.std.proofs.Common.{◌∙◌, ap}
use Rattle.heco_ciphertext_files.specs.CiphertextFiles.{file_text, magic_of}
use Rattle.heco_ciphertext_files.specs.declared.kind.FileKind.TheVariants.{Cts}
use Rattle.heco_circuit.specs.CircuitFormat.{circuit_text}
use Rattle.heco_key_files.specs.KeyFiles.{eval_text, lists_of, secret_text}
use Rattle.heco_nums.specs.declared.preset.Preset.{Preset}
use Rattle.heco_products.specs.Results.{results_file}
use Rattle.heco_exec.proofs.ChainLaws.{same_five}
use Rattle.heco_exec.proofs.files.run_files.Goals as goal

pub returns-clause-writes : goal.returns-clause-writes
returns-clause-writes g c =
    let p = c.args.key.now.preset in
    let circuit = c.args.circuit.now in
    let secret = c.args.secret.now in
    let e = lists_of c.args.key.now in
    let inputs = c.args.inputs.items in
    c.in_ok-writes.ensures ∙ same_five c.args.which _ _ _ _ _ (circuit_text circuit) (secret_text p.id secret.places) (eval_text p.id e) (file_text (magic_of Cts) p.id inputs) (results_file p circuit e inputs)
    c.in_ok-files.ensures.circuit (c.in_ok-files.ensures.secret ∙ ap (λ (q : Preset). secret_text q.id secret.places) c.requires.same) c.in_ok-files.ensures.key c.in_ok-before.ensures.inputs c.in_ok-before.ensures.file
