use Rattle.std.proofs.Common.{◌≤◌, length, sym, subst}
use Rattle.heco_products.proofs.CircuitFacts.{few_inputs, own_names}
use Rattle.heco_texts.specs.Answers.{HaveOwnNames}
use Rattle.heco_tasks.proofs.circuits.inputs_of.Goals as goal

pub returns-clause-count : goal.returns-clause-count
returns-clause-count c = subst (λ shapes. length shapes ≤ 256) (sym c.inputs.ensures) (few_inputs c.args.circuit.now c.preset-valid.ensures.valid)

pub returns-clause-names : goal.returns-clause-names
returns-clause-names c = subst HaveOwnNames (sym c.inputs.ensures) (own_names c.args.circuit.now c.preset-valid.ensures.valid)
