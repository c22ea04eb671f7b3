use Rattle.std.proofs.Common.{◌∙◌, Bool, List, ℕ, ap, map}
use Rattle.heco_circuit.specs.Plans.{shape_of}
use Rattle.heco_meaning.specs.Meanings.{output_values}
use Rattle.heco_texts.specs.Outputs.{output_text}
use Rattle.heco_products.specs.Decrypting.{row_text, output_wire_count, decrypted_wires}
use Rattle.heco_products.proofs.Products.{are_ciphertexts}
use Rattle.heco_slots.specs.Rows.{first_row, second_row}
use Rattle.heco_products.proofs.both_rows.rows_texts.Goals as goal

pub decrypt_both-requires : goal.decrypt_both-requires
decrypt_both-requires c = record { ciphertexts = are_ciphertexts c.args.key.now.preset.n (output_wire_count c.args.circuit.now) c.args.results.now c.requires }

pub returns-clause-first : goal.returns-clause-first
unfolding row_text
returns-clause-first c =
    let outputs = c.args.circuit.now.outputs in
    let p = c.args.key.now.preset in
    let slots_of : List Bool → List (List ℕ) = λ wires. decrypted_wires p first_row c.args.key.now.places wires c.args.results.now in
    let wires = c.as_slice.ensures.value ∙ c.in_ok-wires.ensures.marked in
    c.in_ok-text.ensures ∙ ap (λ slots. output_text (map shape_of outputs) (map (output_values slots) outputs)) (c.as_slice-2.ensures ∙ c.in_ok-first.ensures.first ∙ ap slots_of wires)

pub returns-clause-second : goal.returns-clause-second
unfolding row_text
returns-clause-second c =
    let outputs = c.args.circuit.now.outputs in
    let p = c.args.key.now.preset in
    let slots_of : List Bool → List (List ℕ) = λ wires. decrypted_wires p (second_row p) c.args.key.now.places wires c.args.results.now in
    let wires = c.as_slice.ensures.value ∙ c.in_ok-wires.ensures.marked in
    c.in_ok-other.ensures ∙ ap (λ slots. output_text (map shape_of outputs) (map (output_values slots) outputs)) (c.as_slice-3.ensures ∙ c.in_ok-first.ensures.second ∙ ap slots_of wires)
