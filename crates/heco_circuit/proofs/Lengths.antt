-- How long lists and texts are that belong to a circuit: parts and bounds of wires, and the texts of its file.
use Rattle.std.proofs.Common.{◌≡◌, ◌∙◌, refl, ap, ℕ, suc, ◌+◌, ◌*◌, ◌≤◌, List, [], ◌∷◌, ◌++◌, length, length-append, arith}
use Rattle.std.specs.Prelude.{codes, flat_map}
use Rattle.std.specs.Int.{w32, to_be_bytes}
use Rattle.heco_fields.specs.Formats.{versioned_text}
use Rattle.heco_nums.specs.Runs.{along}
use Rattle.heco_circuit.specs.declared.gate.Cell.{Cell}
use Rattle.heco_circuit.specs.declared.gate.Cell.TheVariants.{Number, Slot}
use Rattle.heco_circuit.specs.declared.gate.Gate.{Gate}
use Rattle.heco_circuit.specs.declared.gate.Gate.TheVariants.{Neg, Add, Sub, Mul, Relin, Scale, Shift, Turn, Weigh}
use Rattle.heco_circuit.specs.Bounds.{fresh_bounds}
use Rattle.heco_circuit.specs.GateFormat.{gate_text}
use Rattle.heco_circuit.specs.VectorFormat.{vectors_text}
use Rattle.heco_circuit.specs.CircuitFormat.{header_of, name_text, cell_text, inputs_text, gates_text, outputs_text, circuit_text}
use Rattle.heco_circuit.specs.Plans.{Plan, input_parts}
use Rattle.heco_circuit.specs.Validity.{parts_of, with_gate}

-- ---- the inputs
pub length-input_parts : {A : Type 0} (inputs : List A) → length (input_parts inputs) ≡ length inputs
length-input_parts [] = refl
length-input_parts (s ∷ inputs) = ap suc (length-input_parts inputs)

pub length-fresh_bounds : {A : Type 0} (id : ℕ) (inputs : List A) → length (fresh_bounds id inputs) ≡ length inputs
length-fresh_bounds id [] = refl
length-fresh_bounds id (s ∷ inputs) = ap suc (length-fresh_bounds id inputs)

-- ---- the parts of all wires
pub length-along : (parts : List ℕ) (gs : List Gate) → length (along with_gate parts gs) ≡ length parts + length gs
length-along parts [] = omega arith
length-along parts (g ∷ gs) = length-along (with_gate parts g) gs ∙ omega (arith, length-append parts (parts_of parts g ∷ []))

-- ---- gates: 5 to 9 bytes each
gate_low : (g : Gate) → 5 ≤ length (gate_text g)
gate_low (Neg a) = omega arith
gate_low (Add a b) = omega arith
gate_low (Sub a b) = omega arith
gate_low (Mul a b) = omega arith
gate_low (Relin a) = omega arith
gate_low (Scale c a) = omega arith
gate_low (Shift c a) = omega arith
gate_low (Turn r a) = omega arith
gate_low (Weigh v a) = omega arith

gate_short : (g : Gate) → length (gate_text g) ≤ 9
gate_short (Neg a) = omega arith
gate_short (Add a b) = omega arith
gate_short (Sub a b) = omega arith
gate_short (Mul a b) = omega arith
gate_short (Relin a) = omega arith
gate_short (Scale c a) = omega arith
gate_short (Shift c a) = omega arith
gate_short (Turn r a) = omega arith
gate_short (Weigh v a) = omega arith

pub gates_low : (gs : List Gate) → 5 * length gs ≤ length (flat_map gate_text gs)
gates_low [] = omega arith
gates_low (g ∷ gs) = omega (arith, length-append (gate_text g) (flat_map gate_text gs), gate_low g, gates_low gs)

pub gates_short : (gs : List Gate) → length (flat_map gate_text gs) ≤ 9 * length gs
gates_short [] = omega arith
gates_short (g ∷ gs) = omega (arith, length-append (gate_text g) (flat_map gate_text gs), gate_short g, gates_short gs)

-- ---- cells and names
cell_short : (c : Cell) → length (cell_text c) ≤ 7
cell_short (Number n) = omega arith
cell_short (Slot w s) = omega arith

pub cells_short : (cs : List Cell) → length (flat_map cell_text cs) ≤ 7 * length cs
cells_short [] = omega arith
cells_short (c ∷ cs) = omega (arith, length-append (cell_text c) (flat_map cell_text cs), cell_short c, cells_short cs)

pub length-name_text : (name : List ℕ) → length (name_text name) ≡ 4 + length name
length-name_text name = length-append (to_be_bytes w32 (length name)) name

-- ---- the whole file
pub file_long : (c : Plan) → length (circuit_text c) ≡ length (versioned_text (codes "HCIR") (header_of c)) + (length (inputs_text c.inputs) + (length (vectors_text c.vectors) + (length (gates_text c.gates) + length (outputs_text c.outputs))))
file_long c =
    length-append (versioned_text (codes "HCIR") (header_of c)) (inputs_text c.inputs ++ (vectors_text c.vectors ++ (gates_text c.gates ++ outputs_text c.outputs)))
    ∙ ap (λ n. length (versioned_text (codes "HCIR") (header_of c)) + n) (length-append (inputs_text c.inputs) (vectors_text c.vectors ++ (gates_text c.gates ++ outputs_text c.outputs))
    ∙ ap (λ n. length (inputs_text c.inputs) + n) (length-append (vectors_text c.vectors) (gates_text c.gates ++ outputs_text c.outputs)
    ∙ ap (λ n. length (vectors_text c.vectors) + n) (length-append (gates_text c.gates) (outputs_text c.outputs))))
