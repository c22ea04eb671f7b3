use Rattle.std.proofs.Common.{◌≡◌, ◌+◌, ◌∙◌, false, ap, length, arith}
use Rattle.std.specs.Prelude.{replicate}
use Rattle.heco_run_laws.specs.Results.{wire_count}
use Rattle.heco_products.proofs.CircuitFacts.{few_inputs, few_gates}
use Rattle.heco_products.proofs.Products.{marked_list, marked_long}
use Rattle.heco_products.proofs.wires.output_wires.Goals as goal

pub overflow_add-count : goal.overflow_add-count
overflow_add-count c =
    let valid = c.preset-valid.ensures.valid in
    omega (arith, c.len.ensures, c.len-2.ensures, ap length c.inputs.ensures, ap length c.gates.ensures, few_inputs c.args.circuit.now valid, few_gates c.args.circuit.now valid)

pub returns-clause-marked : goal.returns-clause-marked
returns-clause-marked c =
    let circuit = c.args.circuit.now in
    let count : c.len.result + c.len-2.result ≡ wire_count circuit = omega (arith, c.len.ensures, c.len-2.ensures, ap length c.inputs.ensures, ap length c.gates.ensures) in
    let clear = c.as_mut_slice.ensures.value ∙ c.in_ok-wires.ensures.items_if_clones_equal (λ y e. e) ∙ ap (λ n. replicate n false) count in
    marked_list circuit c.mark_outputs.new.wires c.as_mut_slice.result.now c.in_ok-wires.wires.items c.in_ok-wires.wires.len c.as_slice.result.now c.mark_outputs.auto.wires clear (c.in_ok-wires.ensures.len ∙ count) (c.as_slice.ensures ∙ c.outputs.ensures) c.mark_outputs.ensures

pub returns-clause-few : goal.returns-clause-few
returns-clause-few c =
    let valid = c.preset-valid.ensures.valid in
    omega (arith, ap length (returns-clause-marked c), marked_long c.args.circuit.now, few_inputs c.args.circuit.now valid, few_gates c.args.circuit.now valid)
