-- The circuit in which products by plain vectors have replaced multiples of wires.
use Rattle.std.specs.Prelude.{ℕ, zero, suc, ◌+◌, Bool, ◌&&◌, ◌==◌, List, ◌++◌, length, map, filter_map, Option, Some, None, slice_index, if◌then◌else◌}
use Rattle.std.specs.List.{position_or_len}
use Rattle.heco_circuit.specs.declared.gate.Gate.{Gate}
use Rattle.heco_circuit.specs.declared.gate.Gate.TheVariants.{Scale, Weigh}
use Rattle.heco_circuit.specs.Plans.{Plan}
use Rattle.heco_rewrites.specs.Wires.{over, output_over, maker}
use Rattle.heco_rewrites.specs.Needed.{has}
use Rattle.heco_plainvec.specs.declared.multiple.Multiple.{Multiple}
use Rattle.heco_plainvec.specs.Gathering.{cell_only, multiples, numbered, vector, chosen}

-- the chosen wire of which this gate is a multiple that goes
abbrev pub source_where : List ℕ → Bool → Option Gate → Option ℕ
source_where among only (Some (Scale k a)) = if only && has among a then Some a else None
source_where among only g = None

abbrev pub source : Plan → ℕ → Option ℕ
source c wire = source_where (chosen c) (cell_only c wire) (maker (length c.inputs) c.gates wire)

-- the wire of the first of the multiples of a, where their product stands
abbrev pub wire_of_multiple : Multiple → ℕ
wire_of_multiple m = m.wire

abbrev pub first_wire : List Multiple → ℕ
first_wire ms = slice_index (map wire_of_multiple ms) 0

abbrev pub first_multiple : Plan → ℕ → ℕ
first_multiple c a = first_wire (multiples c a)

abbrev pub leader_where : Plan → ℕ → Option ℕ → ℕ
leader_where c wire None = wire
leader_where c wire (Some a) = first_multiple c a

-- the wire in whose place that of this one's value stands: its own but for a multiple that goes
abbrev pub leader : Plan → ℕ → ℕ
leader c wire = leader_where c wire (source c wire)

abbrev pub stays : Plan → ℕ → Bool
stays c wire = leader c wire == wire

-- how many of the wires below this one stay
abbrev pub staying_below : Plan → ℕ → ℕ
staying_below c zero = 0
staying_below c (suc wire) = staying_below c wire + (if stays c wire then 1 else 0)

-- the new number of a wire
abbrev pub name : Plan → ℕ → ℕ
name c wire = staying_below c (leader c wire)

-- the number of the vector for the multiples of a, behind the vectors that there were
abbrev pub vector_number : Plan → ℕ → ℕ
vector_number c a = length c.vectors + position_or_len (λ x. x == a) (chosen c)

abbrev pub gate_where : Plan → Gate → Option ℕ → Gate
gate_where c g None = over (name c) g
gate_where c g (Some a) = Weigh (vector_number c a) (name c a)

-- the gate at a wire that stays: a product in place of a multiple that goes, any other as it was
abbrev pub gathered_gate : Plan → ℕ × Gate → Option Gate
gathered_gate c x = if stays c x.0 then Some (gate_where c x.1 (source c x.0)) else None

abbrev pub gathered_gates : Plan → List Gate
gathered_gates c = filter_map (gathered_gate c) (numbered c)

abbrev pub gathered_vectors : Plan → List (List ℕ)
gathered_vectors c = c.vectors ++ map (vector c) (chosen c)

unfoldable pub gathered : Plan → Plan
gathered c = record {
  preset = c.preset;
  inputs = c.inputs;
  vectors = gathered_vectors c;
  gates = gathered_gates c;
  outputs = map (output_over (name c)) c.outputs;
}
