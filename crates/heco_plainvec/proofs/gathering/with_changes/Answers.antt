use Rattle.std.proofs.Common.{◌∙◌, sym, subst}
use Rattle.heco_circuit.specs.Circuits.{IsCircuit}
use Rattle.heco_plainvec.proofs.Whole.{valid}
use Rattle.heco_plainvec.proofs.Valid.{gathered_valid}
use Rattle.heco_plainvec.proofs.NewOutputs.{IsChanged, outputs_made, made_of}
use Rattle.heco_plainvec.proofs.gathering.with_changes.Goals as goal

pub make_with-requires : goal.make_with-requires
make_with-requires c =
    let k = c.args.c.now in
    let s : IsChanged k c.preset.result.now.id c.in_ok-inputs.inputs c.args.changes.vectors c.args.changes.gates c.in_ok-outputs.outputs = record {
      id_is = c.preset.ensures.preset;
      inputs_are = c.in_ok-inputs.ensures ∙ c.as_slice.ensures ∙ c.inputs.ensures;
      vectors_are = c.requires.vectors;
      gates_are = c.requires.gates;
      outputs_are = outputs_made k c.as_slice-2.result.now c.as_slice-3.result.now c.in_ok-outputs.outputs (valid k c.preset.ensures.valid) c.in_ok-outputs.ensures
          (c.as_slice-3.ensures ∙ c.outputs.ensures) (c.as_slice-2.ensures ∙ c.requires.names);
    } in
    subst IsCircuit (sym (made_of k _ _ _ _ _ s)) (gathered_valid k c.preset.ensures.valid c.requires.room)

pub returns : goal.returns
returns c =
    let k = c.args.c.now in
    c.make_with.ensures
    ∙ made_of k c.preset.result.now.id c.in_ok-inputs.inputs c.args.changes.vectors c.args.changes.gates c.in_ok-outputs.outputs (record {
      id_is = c.preset.ensures.preset;
      inputs_are = c.in_ok-inputs.ensures ∙ c.as_slice.ensures ∙ c.inputs.ensures;
      vectors_are = c.requires.vectors;
      gates_are = c.requires.gates;
      outputs_are = outputs_made k c.as_slice-2.result.now c.as_slice-3.result.now c.in_ok-outputs.outputs (valid k c.preset.ensures.valid) c.in_ok-outputs.ensures
          (c.as_slice-3.ensures ∙ c.outputs.ensures) (c.as_slice-2.ensures ∙ c.requires.names);
    })
