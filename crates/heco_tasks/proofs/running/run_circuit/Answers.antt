use Rattle.std.proofs.Common.{◌∙◌, ap, subst, sym, length, arith}
use Rattle.heco_ciphertext_files.specs.CiphertextFiles.{AreCiphertexts}
use Rattle.heco_key_files.specs.KeyFiles.{lists_of}
use Rattle.heco_products.specs.Decrypting.{output_wire_count}
use Rattle.heco_products.proofs.CircuitFacts.{few_inputs}
use Rattle.heco_end_to_end.proofs.DecryptedRuns.{results_are_ciphertexts}
use Rattle.heco_run_laws.specs.Results.{results_of}
use Rattle.heco_tasks.proofs.RunLaws.{same_keys, read_inputs_fit, not_refused, only_memory}
use Rattle.heco_tasks.proofs.running.run_circuit.Goals as goal

pub run-requires-clause-inputs : goal.run-requires-clause-inputs
run-requires-clause-inputs g c = read_inputs_fit c.args.key.now.preset.n (length c.args.circuit.now.inputs) c.args.inputs.items c.requires.inputs

pub want_of_memory-requires : goal.want_of_memory-requires
want_of_memory-requires g c =
    only_memory c.in-Err.error _ (not_refused c.args.circuit.now c.args.key.now (length c.args.inputs.items) c.requires.inputs.count c.requires.keys) c.in-Err.ensures.refusal

pub returns-in-Ok-clause-results : goal.returns-in-Ok-clause-results
returns-in-Ok-clause-results g c = c.in-Ok.ensures.outs ∙ ap (λ keys. results_of c.args.key.now.preset keys c.args.circuit.now c.args.inputs.items) (same_keys c.args.key.now)

pub returns-in-Ok-clause-ciphertexts : goal.returns-in-Ok-clause-ciphertexts
returns-in-Ok-clause-ciphertexts g c =
    let p = c.args.key.now.preset in
    let circuit = c.args.circuit.now in
    subst (AreCiphertexts p.n (output_wire_count circuit)) (sym (c.in-Ok.ensures.outs ∙ ap (λ keys. results_of p keys circuit c.args.inputs.items) (same_keys c.args.key.now)))
    (results_are_ciphertexts p circuit (lists_of c.args.key.now) c.args.inputs.items c.preset-valid.ensures.valid c.requires.inputs)

pub returns-in-Ok-clause-leads : goal.returns-in-Ok-clause-leads
returns-in-Ok-clause-leads g c = record { events = c.in-Ok.ran.events; is_run = c.in-Ok.ensures.events; rule = c.in-Ok.ensures.rule }

pub run-requires-clause-count : goal.run-requires-clause-count
run-requires-clause-count g c = omega (arith, few_inputs c.args.circuit.now c.preset-valid.ensures.valid, c.requires.inputs.count)
