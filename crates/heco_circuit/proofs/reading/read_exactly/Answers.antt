use Rattle.heco_circuit.specs.CircuitFormat.{plan_with}
use Rattle.heco_circuit.proofs.Sizes.{formed_gates}
use Rattle.heco_circuit.proofs.reading.read_exactly.Goals as goal

pub noise_of-requires-clause-constants : goal.noise_of-requires-clause-constants
noise_of-requires-clause-constants c =
    let d = c.in_ok-draft.draft in
    let f = formed_gates (plan_with d.preset.id d.inputs d.vectors d.gates d.outputs) c.in_ok-draft.ensures.1 in
    rw (d.preset.row.4, c.as_slice-3.ensures) f.constants

pub noise_of-requires-clause-vectors : goal.noise_of-requires-clause-vectors
noise_of-requires-clause-vectors c =
    let d = c.in_ok-draft.draft in
    let f = formed_gates (plan_with d.preset.id d.inputs d.vectors d.gates d.outputs) c.in_ok-draft.ensures.1 in
    rw (d.preset.row.4, d.preset.row.3, c.as_slice-2.ensures) f.vectors
