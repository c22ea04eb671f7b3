use Rattle.std.proofs.Common.{◌∙◌, length, ap, sym, subst}
use Rattle.heco_ciphertext_files.specs.CiphertextFiles.{AreCiphertexts, file_text, magic_of}
use Rattle.heco_ciphertext_files.specs.declared.kind.FileKind.TheVariants.{Cts, Res}
use Rattle.heco_products.specs.Decrypting.{output_wire_count}
use Rattle.heco_products.specs.Results.{results_file}
use Rattle.heco_exec.proofs.ChainLaws.{all_two}
use Rattle.heco_exec.proofs.files.ran.Goals as goal

pub write_cts-requires : goal.write_cts-requires
write_cts-requires g c =
    let n = c.args.key.now.preset.n in
    let count = length c.args.circuit.now.inputs in
    record { two = all_two n count c.as_slice.result.now (subst (AreCiphertexts n count) (sym c.as_slice.ensures.value) c.requires.inputs) }

pub write_cts-requires-2 : goal.write_cts-requires-2
write_cts-requires-2 g c =
    let n = c.args.key.now.preset.n in
    let count = output_wire_count c.args.circuit.now in
    record { two = all_two n count c.as_slice-2.result.now (subst (AreCiphertexts n count) (sym c.as_slice-2.ensures) c.in_ok-results.ensures.ciphertexts) }

pub returns-clause-inputs : goal.returns-clause-inputs
returns-clause-inputs g c =
    c.in_ok-before.ensures.text ∙ ap (λ q. file_text (magic_of Cts) q.id c.as_slice.result.now) c.preset.ensures ∙ ap (file_text (magic_of Cts) c.args.key.now.preset.id) c.as_slice.ensures.value

pub returns-clause-file : goal.returns-clause-file
unfolding results_file
returns-clause-file g c =
    c.in_ok-file.ensures.text ∙ ap (λ q. file_text (magic_of Res) q.id c.as_slice-2.result.now) c.preset-2.ensures
    ∙ ap (file_text (magic_of Res) c.args.key.now.preset.id) (c.as_slice-2.ensures ∙ c.in_ok-results.ensures.results)
