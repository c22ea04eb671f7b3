-- How long the file of a circuit is at most.
use Rattle.std.proofs.Common.{◌≡◌, ◌∙◌, refl, sym, ap, ℕ, ◌+◌, ◌-◌, ◌*◌, ◌^◌, ◌<◌, ◌≤◌, true, ◌&&◌, ◌==◌, nat_le, List, [], ◌∷◌, map, length, length-append, arith}
use Rattle.std.specs.Prelude.{codes}
use Rattle.std.specs.List.{flat_map, list_all, sum_by}
use Rattle.std.specs.Int.{w16, w32, to_be_bytes}
use Rattle.std.proofs.lemmas.Bool.{and_parts, eqb-true, leb-true}
use Rattle.std.proofs.lemmas.Bool.Decides.{nat_tests}
use Rattle.std.proofs.lemmas.List.{length-map}
use Rattle.std.proofs.lemmas.List.Sums.{sum_by-cons}
use Rattle.heco_nums.specs.Presets.{modulus_of, slots_of}
use Rattle.heco_nums.specs.declared.shape.Shape.{Shape}
use Rattle.heco_fields.specs.Formats.{versioned_text}
use Rattle.heco_nums.specs.Runs.{all_along}
use Rattle.heco_circuit.specs.declared.gate.Output.{Output}
use Rattle.heco_circuit.specs.GateFormat.{gate_text}
use Rattle.heco_circuit.specs.CircuitFormat.{header_of, input_text, output_text, inputs_text, gates_text, outputs_text, circuit_text}
use Rattle.heco_circuit.specs.VectorFormat.{vector_text, vectors_text}
use Rattle.heco_circuit.specs.Validity.{is_between}
use Rattle.heco_circuit.specs.Circuits.{IsCircuit}
use Rattle.heco_circuit.specs.Plans.{Plan, shape_of, push, wire_parts, is_name, is_new, is_input, is_cell, is_output, is_vector, are_inputs, are_vectors, are_gates, are_outputs}
use Rattle.heco_place.proofs.ValidPlan.{input_short, output_short}
use Rattle.heco_circuit.proofs.Lengths.{gates_short, file_long}
use Rattle.heco_plainvec.specs.Gathering.{HasRoom}
use Rattle.heco_compile.proofs.Names.{shape_bytes}

inputs_short : (xs : List Shape) → length (flat_map input_text xs) ≤ 6 * length xs + shape_bytes xs
inputs_short [] = omega arith
inputs_short (x ∷ xs) = omega (arith, length-append (input_text x) (flat_map input_text xs), input_short x, inputs_short xs)

outputs_short : (os : List Output) → length (flat_map output_text os) ≤ 6 * length os + shape_bytes (map shape_of os) + 7 * sum_by (λ s. s.len) (map shape_of os)
outputs_short [] = omega arith
outputs_short (o ∷ os) =
    omega (
      arith,
      length-append (output_text o) (flat_map output_text os),
      output_short o,
      outputs_short os,
      sum_by-cons (λ (s : Shape). s.len) (shape_of o) (map shape_of os),
    )

-- ---- plain vectors

length-vector_text : (v : List ℕ) → length (vector_text v) ≡ 4 * length v
length-vector_text [] = refl
length-vector_text (x ∷ v) = omega (arith, length-append (to_be_bytes w32 x) (vector_text v), length-vector_text v)

slots_small : (id : ℕ) → slots_of id ≤ 512
slots_small id = grind (arith, nat_tests)

vectors_flat : (t slots : ℕ) (vs : List (List ℕ)) → slots ≤ 512 → list_all (is_vector t slots) vs ≡ true → length (flat_map vector_text vs) ≤ 2048 * length vs
vectors_flat t slots [] few h = omega arith
vectors_flat t slots (v ∷ vs) few h =
    let both = and_parts (is_vector t slots v) (list_all (is_vector t slots) vs) h in
    let long : length v ≡ slots = eqb-true (length v) slots (and_parts (length v == slots) (list_all (is_between 0 (t - 1)) v) both.0).0 in
    omega (arith, length-append (vector_text v) (flat_map vector_text vs), length-vector_text v, long, few, vectors_flat t slots vs few both.1)

counted_short : (t slots : ℕ) (vs : List (List ℕ)) → slots ≤ 512 → length vs ≤ 256 → list_all (is_vector t slots) vs ≡ true → length (vectors_text vs) ≤ 524292
counted_short t slots [] few count h = omega arith
counted_short t slots (v ∷ vs) few count h =
    let four : length (to_be_bytes w32 (length (v ∷ vs))) ≡ 4 = refl in
    omega (arith, four, length-append (to_be_bytes w32 (length (v ∷ vs))) (flat_map vector_text (v ∷ vs)), vectors_flat t slots (v ∷ vs) few h, count)

vectors_short : (c : Plan) → IsCircuit c → length (vectors_text c.vectors) ≤ 524292
vectors_short c valid =
    let behind = and_parts (is_between 1 5 c.preset) (are_inputs c && (are_vectors c && (are_gates c && are_outputs c))) valid.0 in
    let rest = and_parts (are_inputs c) (are_vectors c && (are_gates c && are_outputs c)) behind.1 in
    let here = and_parts (nat_le (length c.vectors) 256) (list_all (is_vector (modulus_of c.preset) (slots_of c.preset)) c.vectors) (and_parts (are_vectors c) (are_gates c && are_outputs c) rest.1).0 in
    counted_short (modulus_of c.preset) (slots_of c.preset) c.vectors (slots_small c.preset) (leb-true (length c.vectors) 256 here.0) here.1

-- ---- the whole file

-- a valid circuit of so many gates and parameters, beside the bytes of its names and its elements
file_within : (c : Plan) (outputs : List Shape) → IsCircuit c → map shape_of c.outputs ≡ outputs → length c.gates ≤ 20447232 → length c.inputs + length outputs ≤ 256
    → length (circuit_text c) ≤ (2 ^ 28 - 2 ^ 26) + (shape_bytes c.inputs + shape_bytes outputs) + 7 * sum_by (λ s. s.len) outputs
file_within c outputs valid are gates ports =
    let head : length (versioned_text (codes "HCIR") (header_of c)) ≡ 6 = refl in
    let i : length (inputs_text c.inputs) ≡ 2 + length (flat_map input_text c.inputs) = length-append (to_be_bytes w16 (length c.inputs)) (flat_map input_text c.inputs) in
    let g : length (gates_text c.gates) ≡ 4 + length (flat_map gate_text c.gates) = length-append (to_be_bytes w32 (length c.gates)) (flat_map gate_text c.gates) in
    let o : length (outputs_text c.outputs) ≡ 2 + length (flat_map output_text c.outputs) = length-append (to_be_bytes w16 (length c.outputs)) (flat_map output_text c.outputs) in
    let count : length c.outputs ≡ length outputs = sym (length-map c.outputs shape_of) ∙ ap length are in
    let os : length (flat_map output_text c.outputs) ≤ 6 * length outputs + shape_bytes outputs + 7 * sum_by (λ s. s.len) outputs = rw (are, count) at (outputs_short c.outputs) in
    omega (arith, file_long c, head, i, g, o, os, vectors_short c valid, inputs_short c.inputs, gates_short c.gates, gates, ports)

-- a valid circuit of so many gates, parameters and elements, whose names have 2^20 bytes together
pub file_short : (c : Plan) (outputs : List Shape) → IsCircuit c → map shape_of c.outputs ≡ outputs → length c.gates ≤ 20447232 → length c.inputs + length outputs ≤ 256
    → shape_bytes c.inputs + shape_bytes outputs ≤ 2 ^ 20 → sum_by (λ s. s.len) outputs ≤ 2 ^ 20 → length (circuit_text c) < 2 ^ 28
file_short c outputs valid are gates ports names elements = omega (arith, file_within c outputs valid are gates ports, names, elements)

-- ---- room for plain vectors, whatever its names are

name_short : (inputs : List Shape) (before : List Output) (name : List ℕ) → is_name inputs before name ≡ true → length name ≤ 2 ^ 20
name_short inputs before name h =
    let both = and_parts (is_between 1 (2 ^ 20) (length name)) (is_new inputs before name) h in
    leb-true (length name) (2 ^ 20) (and_parts (nat_le 1 (length name)) (nat_le (length name) (2 ^ 20)) both.0).1

names_of_inputs : (slots : ℕ) (before xs : List Shape) → all_along (is_input slots) push before xs ≡ true → shape_bytes xs ≤ 2 ^ 20 * length xs
names_of_inputs slots before [] h = omega arith
names_of_inputs slots before (s ∷ xs) h =
    let both = and_parts (is_input slots before s) (all_along (is_input slots) push (push before s) xs) h in
    let named = and_parts (is_name before [] s.name) (is_between 1 slots s.len) both.0 in
    let long = name_short before [] s.name named.0 in
    omega (arith, long, names_of_inputs slots (push before s) xs both.1)

outputs_within : (t slots : ℕ) (inputs : List Shape) (parts : List ℕ) (before os : List Output) → all_along (is_output t slots inputs parts) push before os ≡ true
    → (shape_bytes (map shape_of os) ≤ 2 ^ 20 * length os) × (sum_by (λ s. s.len) (map shape_of os) ≤ 4096 * length os)
outputs_within t slots inputs parts before [] h = (omega arith, omega arith)
outputs_within t slots inputs parts before (o ∷ os) h =
    let both = and_parts (is_output t slots inputs parts before o) (all_along (is_output t slots inputs parts) push (push before o) os) h in
    let named = and_parts (is_name inputs before o.name) (is_between 1 4096 (length o.cells) && list_all (is_cell t slots parts) o.cells) both.0 in
    let cells = and_parts (is_between 1 4096 (length o.cells)) (list_all (is_cell t slots parts) o.cells) named.1 in
    let few = leb-true (length o.cells) 4096 (and_parts (nat_le 1 (length o.cells)) (nat_le (length o.cells) 4096) cells.0).1 in
    let long = name_short inputs before o.name named.0 in
    let rest = outputs_within t slots inputs parts (push before o) os both.1 in
    (omega (arith, long, rest.0), omega (arith, few, rest.1, sum_by-cons (λ (s : Shape). s.len) (shape_of o) (map shape_of os)))

-- a valid circuit of so many gates
pub has_room : (c : Plan) → IsCircuit c → length c.gates ≤ 20447232 → HasRoom c
has_room c valid gates =
    let behind = and_parts (is_between 1 5 c.preset) (are_inputs c && (are_vectors c && (are_gates c && are_outputs c))) valid.0 in
    let rest = and_parts (are_inputs c) (are_vectors c && (are_gates c && are_outputs c)) behind.1 in
    let last = and_parts (are_gates c) (are_outputs c) (and_parts (are_vectors c) (are_gates c && are_outputs c) rest.1).1 in
    let inputs = and_parts (nat_le (length c.inputs) 256) (all_along (is_input (slots_of c.preset)) push [] c.inputs) rest.0 in
    let outputs =
    and_parts (nat_le (length c.outputs) (256 - length c.inputs)) (all_along (is_output (modulus_of c.preset) (slots_of c.preset) c.inputs (wire_parts c)) push [] c.outputs) last.1 in
    let few_inputs = leb-true (length c.inputs) 256 inputs.0 in
    let few_outputs = leb-true (length c.outputs) (256 - length c.inputs) outputs.0 in
    let names = names_of_inputs (slots_of c.preset) [] c.inputs inputs.1 in
    let sizes = outputs_within (modulus_of c.preset) (slots_of c.preset) c.inputs (wire_parts c) [] c.outputs outputs.1 in
    let count : length (map shape_of c.outputs) ≡ length c.outputs = length-map c.outputs shape_of in
    omega (arith, file_within c (map shape_of c.outputs) valid refl gates (omega (arith, few_inputs, few_outputs, count)), names, sizes.0, sizes.1, few_inputs, few_outputs)
