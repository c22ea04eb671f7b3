use Rattle.std.proofs.Common.{◌≡◌, ◌≤◌, false, length, Ok, arith}
use Rattle.std.proofs.lemmas.Result.{err_from_is_err_and}
use Rattle.heco_ir.specs.Unrolled.{AllElementsBelow, root_terms}
use Rattle.heco_types.specs.Shapes.{shapes_of}
use Rattle.heco_eval.specs.Typed.{modulus_named}
use Rattle.heco_unroll.specs.Unrolling.{element_terms, element_count}
use Rattle.heco_unroll.proofs.Shapes.{modulus_is, input_lengths_are, few_shapes, counted, few_elements}
use Rattle.heco_unroll.proofs.unrolling.unroll.Goals as goal

pub unroll_source-requires-clause-lengths : goal.unroll_source-requires-clause-lengths
unroll_source-requires-clause-lengths c = rw (c.as_slice.ensures, c.inputs.ensures.value, c.source.ensures.value) (input_lengths_are c.args.t.now.ports)

pub unroll_source-requires-clause-few : goal.unroll_source-requires-clause-few
unroll_source-requires-clause-few c =
    let few : length (shapes_of false c.args.t.now.ports) ≤ length c.args.t.now.ports = few_shapes false c.args.t.now.ports in
    let count : length c.args.t.now.ports ≤ 256 = c.source.ensures.typed.parameters.count in
    rw (c.as_slice.ensures, c.inputs.ensures.value) (omega arith)

pub returns-in_err-ir-clause-err : goal.returns-in_err-ir-clause-err
returns-in_err-ir-clause-err c =
    let p = err_from_is_err_and c.from_residual.result c.from_residual.ensures.1 in
    rw (p.1, p.2, ← c.source.ensures.value, ← modulus_is c.preset.result.now c.source.result.now.params.text (rw (← c.source.ensures.value) at c.preset.ensures.name)) c.in_err-ir.ensures.err

pub returns : goal.returns
returns c =
    let t : c.preset.result.now.t ≡ modulus_named c.args.t.now.params.text = modulus_is c.preset.result.now c.args.t.now.params.text c.preset.ensures.name in
    let terms : element_terms (modulus_named c.args.t.now.params.text) c.args.t.now ≡ Ok (root_terms c.in_ok-ir.ir.0 c.in_ok-ir.ir.1) =
    rw (t, c.source.ensures.value) at c.in_ok-ir.ensures.terms in
    let count : length c.in_ok-ir.ir.1 ≡ element_count c.args.t.now = counted (modulus_named c.args.t.now.params.text) c.args.t.now c.in_ok-ir.ir.0 c.in_ok-ir.ir.1 c.source.ensures.typed terms in
    let most : element_count c.args.t.now ≤ 1048576 = few_elements c.args.t.now c.source.ensures.typed (rw c.outputs-valid.ensures.value at c.outputs-valid.ensures.lengths) in
    let below : AllElementsBelow (length (shapes_of false c.args.t.now.ports)) c.in_ok-ir.ir.0 = rw (c.as_slice.ensures, c.inputs.ensures.value) at c.in_ok-ir.ensures.elements in
    let few : length (shapes_of false c.args.t.now.ports) ≤ length c.args.t.now.ports = few_shapes false c.args.t.now.ports in
    let ports : length c.args.t.now.ports ≤ 256 = c.source.ensures.typed.parameters.count in
    record {
      terms = terms;
      count = count;
      roots = omega arith;
      err = tt;
      made = rw (t, c.preset.ensures.slots) at c.in_ok-ir.ensures.made;
      inputs = below;
      few_inputs = λ a i h. let b = below a i h in omega arith;
      operations = c.in_ok-ir.ensures.operations;
    }
