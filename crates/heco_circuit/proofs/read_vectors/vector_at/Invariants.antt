use Rattle.std.proofs.Common.{◌≡◌, ◌-◌}
use Rattle.heco_fields.specs.Formats.{many}
use Rattle.heco_fields.specs.Readings.{reading, with_front}
use Rattle.heco_nums.specs.Runs.{stays}
use Rattle.heco_circuit.specs.VectorFormat.{entry}
use Rattle.heco_circuit.proofs.read_vectors.vector_at.Given as goal

abbrev pub invariant-loop : goal.invariant-loop
invariant-loop l = with_front l.vector (reading (many (entry l.t) stays (l.slots - l.counter) 0) l.rest) ≡ reading (many (entry l.t) stays l.slots 0) l.bytes
