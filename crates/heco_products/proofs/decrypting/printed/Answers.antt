use Rattle.std.proofs.Common.{◌≡◌, ◌∙◌, ◌≤◌, ap, sym, subst, map, length}
use Rattle.std.specs.Prelude.{All, IfOk}
use Rattle.std.proofs.lemmas.List.{length-map}
use Rattle.heco_meaning.specs.Meanings.{output_values}
use Rattle.heco_texts.specs.Outputs.{output_text}
use Rattle.heco_circuit.specs.Plans.{shape_of}
use Rattle.heco_products.proofs.CircuitFacts.{short_outputs}
use Rattle.heco_products.proofs.decrypting.printed.Goals as goal

pub shapes_of-requires : goal.shapes_of-requires
shapes_of-requires c = subst (All (λ o. length o.cells ≤ 4096)) (sym (c.as_slice-outputs.ensures ∙ c.outputs.ensures)) (short_outputs c.args.circuit.now c.preset-valid.ensures.valid)

pub print_outputs-requires : goal.print_outputs-requires
print_outputs-requires c = ap length c.in_ok-rows.ensures ∙ length-map c.as_slice-outputs.result.now _ ∙ sym (ap length c.in_ok-shapes.ensures ∙ length-map c.as_slice-outputs.result.now _)

pub returns : goal.returns
returns c =
    let outputs = c.args.circuit.now.outputs in
    let slots = c.args.slots.now in
    let same : c.as_slice-outputs.result.now ≡ outputs = c.as_slice-outputs.ensures ∙ c.outputs.ensures in
    let shapes : c.in_ok-shapes.shapes ≡ map shape_of outputs = c.in_ok-shapes.ensures ∙ ap (map shape_of) same in
    let rows : c.in_ok-rows.rows ≡ map (output_values slots) outputs = c.in_ok-rows.ensures ∙ ap (map (output_values slots)) same in
    subst (λ x. IfOk c.print_outputs.result (λ text. text ≡ output_text x (map (output_values slots) outputs))) shapes
    (subst (λ y. IfOk c.print_outputs.result (λ text. text ≡ output_text c.in_ok-shapes.shapes y)) rows c.print_outputs.ensures)
