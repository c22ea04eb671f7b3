-- What a circuit means: each wire is a list of slots modulo t, and each gate adds a wire. No ciphertext is spoken of.
use Rattle.std.specs.Prelude.{ℕ, ◌+◌, ◌-◌, ◌*◌, ◌%◌, List, [], ◌∷◌, ◌++◌, map, length, take, drop, replicate, slice_index}
use Rattle.std.specs.List.{slice_index_or}
use Rattle.heco_nums.specs.Presets.{modulus_of, slots_of}
use Rattle.heco_nums.specs.Runs.{along}
use Rattle.heco_circuit.specs.declared.gate.Cell.{Cell}
use Rattle.heco_circuit.specs.declared.gate.Cell.TheVariants.{Number, Slot}
use Rattle.heco_circuit.specs.declared.gate.Gate.{Gate}
use Rattle.heco_circuit.specs.declared.gate.Gate.TheVariants.{Neg, Add, Sub, Mul, Relin, Scale, Shift, Turn, Weigh}
use Rattle.heco_circuit.specs.declared.gate.Output.{Output}
use Rattle.heco_circuit.specs.Plans.{Plan}

abbrev pub wire_at : List (List ℕ) → ℕ → List ℕ
wire_at wires a = slice_index_or wires a []

abbrev pub sums : ℕ → List ℕ → List ℕ → List ℕ
sums t [] ys = []
sums t (x ∷ xs) [] = []
sums t (x ∷ xs) (y ∷ ys) = (x + y) % t ∷ sums t xs ys

abbrev pub differences : ℕ → List ℕ → List ℕ → List ℕ
differences t [] ys = []
differences t (x ∷ xs) [] = []
differences t (x ∷ xs) (y ∷ ys) = (x + (t - y % t)) % t ∷ differences t xs ys

abbrev pub products : ℕ → List ℕ → List ℕ → List ℕ
products t [] ys = []
products t (x ∷ xs) [] = []
products t (x ∷ xs) (y ∷ ys) = (x * y) % t ∷ products t xs ys

-- slot j gets what was at slot j + r, round the end
abbrev pub turned : ℕ → List ℕ → List ℕ
turned r xs = drop r xs ++ take r xs

-- the wire that a gate gives behind these wires, in a circuit of these plain vectors
abbrev pub wire_of : ℕ → List (List ℕ) → List (List ℕ) → Gate → List ℕ
wire_of t vectors wires (Neg a) = map (λ x. (t - x) % t) (wire_at wires a)
wire_of t vectors wires (Add a b) = sums t (wire_at wires a) (wire_at wires b)
wire_of t vectors wires (Sub a b) = differences t (wire_at wires a) (wire_at wires b)
wire_of t vectors wires (Mul a b) = products t (wire_at wires a) (wire_at wires b)
wire_of t vectors wires (Relin a) = wire_at wires a
wire_of t vectors wires (Scale c a) = map (λ x. (c * x) % t) (wire_at wires a)
wire_of t vectors wires (Shift c a) = map (λ x. (x + c) % t) (wire_at wires a)
wire_of t vectors wires (Turn r a) = turned r (wire_at wires a)
wire_of t vectors wires (Weigh v a) = products t (wire_at vectors v) (wire_at wires a)

-- the wires with that of the gate
abbrev pub with_wire : ℕ → List (List ℕ) → List (List ℕ) → Gate → List (List ℕ)
with_wire t vectors wires g = wires ++ wire_of t vectors wires g ∷ []

-- the values of an input, and then zeros
abbrev pub filled : ℕ → List ℕ → List ℕ
filled slots values = values ++ replicate (slots - length values) 0

-- all wires, for these rows of inputs
abbrev pub wires_of : Plan → List (List ℕ) → List (List ℕ)
wires_of p rows = along (with_wire (modulus_of p.preset) p.vectors) (map (filled (slots_of p.preset)) rows) p.gates

-- an element of an output is its number, or the slot of its wire
abbrev pub cell_value : List (List ℕ) → Cell → ℕ
cell_value wires (Number n) = n
cell_value wires (Slot wire slot) = slice_index (wire_at wires wire) slot

abbrev pub output_values : List (List ℕ) → Output → List ℕ
output_values wires o = map (cell_value wires) o.cells

-- the rows of outputs for these rows of inputs
unfoldable pub meaning_of : Plan → List (List ℕ) → List (List ℕ)
meaning_of p rows = map (output_values (wires_of p rows)) p.outputs
