use Rattle.std.proofs.Common.{arith}
use Rattle.heco_circuit.specs.CircuitFormat.{plan_with}
use Rattle.heco_circuit.proofs.FileLaws.{judged_at_end}
use Rattle.heco_circuit.proofs.reading.draft_within.Goals as goal

pub returns-else-beyond-gt0 : goal.returns-else-beyond-gt0
returns-else-beyond-gt0 c =
    let d = c.in-Ok.draft in
    judged_at_end c.args.head.now c.args.beyond.now (plan_with d.preset.id d.inputs d.vectors d.gates d.outputs) c.in-Ok.rest.now (λ i. omega (arith, c.type_inv.head i)) c.requires (omega arith) (omega arith) c.in-Ok.ensures
