use Rattle.std.proofs.Common.{◌≡◌, ◌-◌}
use Rattle.heco_fields.specs.Formats.{many}
use Rattle.heco_fields.specs.Readings.{reading, with_front}
use Rattle.heco_nums.specs.Runs.{along}
use Rattle.heco_circuit.specs.Validity.{with_gate}
use Rattle.heco_circuit.specs.GateFormat.{gate}
use Rattle.heco_circuit.proofs.read_gates.gates_at.Given as goal

abbrev pub invariant-loop : goal.invariant-loop
invariant-loop l = record {
  read : with_front l.gates (reading (many (gate l.version l.t l.slots l.vectors) with_gate (l.count - l.counter) l.parts) l.rest) ≡ reading (many (gate l.version l.t l.slots l.vectors) with_gate l.count l.fn.inputs) l.bytes;
  parts : l.parts ≡ along with_gate l.fn.inputs l.gates;
}
