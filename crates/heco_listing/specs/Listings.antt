-- The text that shows a circuit: its preset, its inputs, its plain vectors, its gates with their bounds, and its outputs,
-- a line each.
use Rattle.std.specs.Prelude.{ℕ, ◌+◌, List, [], ◌∷◌, ◌++◌, length, slice_index, codes, decimal}
use Rattle.std.specs.List.{flat_map}
use Rattle.heco_nums.specs.Presets.{preset_name}
use Rattle.heco_nums.specs.declared.shape.Shape.{Shape}
use Rattle.heco_circuit.specs.declared.gate.Cell.{Cell}
use Rattle.heco_circuit.specs.declared.gate.Cell.TheVariants.{Number, Slot}
use Rattle.heco_circuit.specs.declared.gate.Gate.{Gate}
use Rattle.heco_circuit.specs.declared.gate.Gate.TheVariants.{Neg, Add, Sub, Mul, Relin, Scale, Shift, Turn, Weigh}
use Rattle.heco_circuit.specs.declared.gate.Output.{Output}
use Rattle.heco_circuit.specs.Plans.{Plan}
use Rattle.heco_circuit.specs.Bounds.{weights_of, wire_bounds}

abbrev pub preset_line : ℕ → List ℕ
preset_line id = codes "params " ++ preset_name id ++ codes "\n"

-- NAME[LENGTH]
abbrev pub port : List ℕ → ℕ → List ℕ
port name len = name ++ codes "[" ++ decimal len ++ codes "]"

abbrev pub input_line : Shape → List ℕ
input_line s = codes "in " ++ port s.name s.len ++ codes "\n"

abbrev pub two : ℕ → ℕ → List ℕ
two a b = decimal a ++ codes " " ++ decimal b

-- a number behind a space
abbrev pub number_word : ℕ → List ℕ
number_word n = codes " " ++ decimal n

-- a vector behind its number
abbrev pub vector_line : ℕ → List ℕ → List ℕ
vector_line number v = codes "vector " ++ decimal number ++ flat_map number_word v ++ codes "\n"

-- the vectors from this number on
abbrev pub vector_lines : ℕ → List (List ℕ) → List ℕ
vector_lines number [] = []
vector_lines number (v ∷ vectors) = vector_line number v ++ vector_lines (number + 1) vectors

-- the gate's name, its constant, amount or vector where it has one, and its operands
abbrev pub gate_words : Gate → List ℕ
gate_words (Neg a) = codes "Neg " ++ decimal a
gate_words (Add a b) = codes "Add " ++ two a b
gate_words (Sub a b) = codes "Sub " ++ two a b
gate_words (Mul a b) = codes "Mul " ++ two a b
gate_words (Relin a) = codes "Relin " ++ decimal a
gate_words (Scale c a) = codes "Scale " ++ two c a
gate_words (Shift c a) = codes "Shift " ++ two c a
gate_words (Turn r a) = codes "Turn " ++ two r a
gate_words (Weigh v a) = codes "Weigh " ++ two v a

-- the gate behind its wire's number, and before its bound
abbrev pub gate_line : ℕ → Gate → ℕ → List ℕ
gate_line wire g bound = decimal wire ++ codes " " ++ gate_words g ++ codes " : " ++ decimal bound ++ codes "\n"

-- the gates that give this wire and those behind it
abbrev pub gate_lines : List ℕ → ℕ → List Gate → List ℕ
gate_lines bounds wire [] = []
gate_lines bounds wire (g ∷ gates) = gate_line wire g (slice_index bounds wire) ++ gate_lines bounds (wire + 1) gates

abbrev pub cell_words : Cell → List ℕ
cell_words (Number n) = number_word n
cell_words (Slot wire slot) = codes " " ++ decimal wire ++ codes "@" ++ decimal slot

abbrev pub output_line : Output → List ℕ
output_line o = codes "out " ++ port o.name (length o.cells) ++ codes " =" ++ flat_map cell_words o.cells ++ codes "\n"

unfoldable pub listing_of : Plan → List ℕ
listing_of p = preset_line p.preset ++ flat_map input_line p.inputs ++ vector_lines 0 p.vectors
    ++ gate_lines (wire_bounds p.preset (weights_of p.preset p.vectors) p.inputs p.gates) (length p.inputs) p.gates ++ flat_map output_line p.outputs
