use Rattle.std.proofs.Common.{◌∙◌, ap, subst, length}
use Rattle.heco_measure.specs.Lines.{measured_text}
use Rattle.heco_measure.specs.Measuring.{measured_wires}
use Rattle.heco_jobs.specs.Products.{Prints}
use Rattle.heco_tasks.proofs.RunLaws.{same_keys, read_inputs_fit, not_refused}
use Rattle.heco_tasks.specs.MeasureTask.{noise_text}
use Rattle.heco_tasks.proofs.measure.measure_product.Goals as goal

pub measure-requires-clause-keys : goal.measure-requires-clause-keys
measure-requires-clause-keys c = not_refused c.args.circuit.now c.args.key.now (length c.args.inputs.now) c.requires.inputs.count c.requires.keys

pub measure-requires-clause-inputs : goal.measure-requires-clause-inputs
measure-requires-clause-inputs c = read_inputs_fit c.args.key.now.preset.n (length c.args.circuit.now.inputs) c.args.inputs.now c.requires.inputs

pub returns : goal.returns
unfolding noise_text
returns c =
    let p = c.args.key.now.preset in
    let same = ap measured_text (c.as_slice.ensures ∙ c.in_ok-list.ensures ∙ ap (λ keys. measured_wires p c.args.secret.now.places keys c.args.circuit.now c.args.inputs.now) (same_keys c.args.key.now)) in
    subst (λ text. Prints text c.printing.result) (c.in_ok-text.ensures ∙ same) c.printing.ensures
