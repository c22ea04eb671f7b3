use Rattle.std.proofs.Common.{◌≡◌, ◌++◌, length, take}
use Rattle.std.specs.List.{flat_map}
use Rattle.std.specs.Int.{w32, to_be_bytes}
use Rattle.heco_circuit.specs.VectorFormat.{vector_text}
use Rattle.heco_circuit.proofs.writing.put_counted_vectors.Given as goal

abbrev pub invariant-loop-vector : goal.invariant-loop-vector
invariant-loop-vector l = l.out ≡ (l.fn.out ++ to_be_bytes w32 (length l.vectors)) ++ flat_map vector_text (take l.vector-index l.vectors)
