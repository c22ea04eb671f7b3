use Rattle.std.proofs.Common.{◌≡◌, ◌∙◌, Bool, List, ℕ, ap, subst, map}
use Rattle.std.specs.Prelude.{IfOk}
use Rattle.heco_circuit.specs.Plans.{shape_of}
use Rattle.heco_meaning.specs.Meanings.{output_values}
use Rattle.heco_texts.specs.Outputs.{output_text}
use Rattle.heco_products.specs.Decrypting.{row_text, output_wire_count, output_wires, decrypted_wires}
use Rattle.heco_products.proofs.Products.{are_ciphertexts}
use Rattle.heco_slots.specs.Rows.{first_row}
use Rattle.heco_products.proofs.decrypting.outputs_text.Goals as goal

pub decrypt_wires-requires : goal.decrypt_wires-requires
decrypt_wires-requires c = record { ciphertexts = are_ciphertexts c.args.key.now.preset.n (output_wire_count c.args.circuit.now) c.args.results.now c.requires }

pub returns : goal.returns
unfolding row_text
returns c =
    let outputs = c.args.circuit.now.outputs in
    let slots_of : List Bool → List (List ℕ) = λ wires. decrypted_wires c.args.key.now.preset first_row c.args.key.now.places wires c.args.results.now in
    let slots : c.as_slice-2.result.now ≡ slots_of (output_wires c.args.circuit.now) = c.as_slice-2.ensures ∙ c.in_ok-slots.ensures.slots ∙ ap slots_of (c.as_slice.ensures.value ∙ c.in_ok-wires.ensures.marked) in
    subst (λ x. IfOk c.printed.result (λ text. text ≡ output_text (map shape_of outputs) (map (output_values x) outputs))) slots c.printed.ensures
