use Rattle.std.proofs.Common.{◌≤◌, length, sym, subst, arith}
use Rattle.heco_products.proofs.CircuitFacts.{few_inputs}
use Rattle.heco_tasks.proofs.circuits.input_count.Goals as goal

pub overflow_cast-result : goal.overflow_cast-result
overflow_cast-result c =
    let few : length c.inputs.result.now ≤ 256 = subst (λ shapes. length shapes ≤ 256) (sym c.inputs.ensures) (few_inputs c.args.circuit.now c.preset-valid.ensures.valid) in
    omega (arith, few)
