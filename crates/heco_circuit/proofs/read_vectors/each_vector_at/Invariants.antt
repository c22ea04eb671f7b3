use Rattle.std.proofs.Common.{◌≡◌, ◌-◌, length}
use Rattle.heco_fields.specs.Formats.{many}
use Rattle.heco_fields.specs.Readings.{reading, with_front}
use Rattle.heco_nums.specs.Runs.{stays}
use Rattle.heco_circuit.specs.VectorFormat.{vector}
use Rattle.heco_circuit.proofs.read_vectors.each_vector_at.Given as goal

abbrev pub invariant-loop : goal.invariant-loop
invariant-loop l = record {
  read : with_front l.vectors (reading (many (vector l.t l.slots) stays (l.count - l.counter) 0) l.rest) ≡ reading (many (vector l.t l.slots) stays l.count 0) l.bytes;
  count : length l.vectors ≡ l.counter;
}
