use Rattle.std.proofs.Common.{◌≡◌, ◌∙◌, ap, subst}
use Rattle.std.specs.Prelude.{IfOk}
use Rattle.heco_ciphertext_files.specs.CiphertextFiles.{file_text, magic_of}
use Rattle.heco_ciphertext_files.specs.declared.kind.FileKind.TheVariants.{Cts}
use Rattle.heco_key_files.specs.KeyFiles.{lists_of}
use Rattle.heco_products.specs.Encrypting.{messages_file, encrypted_inputs}
use Rattle.heco_products.proofs.encrypting.inputs_file.Goals as goal

pub returns : goal.returns
unfolding messages_file
returns c =
    let p = c.args.key.now.preset in
    let all = encrypted_inputs p (lists_of c.args.key.now) c.args.material.now.rows c.args.inputs.now.rows in
    let cs = c.as_slice.ensures.value ∙ c.in_ok-ciphertexts.ensures.formula in
    subst (λ id. IfOk c.write_cts.result (λ bytes. bytes ≡ file_text (magic_of Cts) id all)) (ap (λ q. q.id) c.preset.ensures)
    (subst (λ x. IfOk c.write_cts.result (λ bytes. bytes ≡ file_text (magic_of Cts) c.preset.result.now.id x)) cs c.write_cts.ensures.text)
