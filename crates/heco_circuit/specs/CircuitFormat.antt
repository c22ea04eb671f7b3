-- The fields of a circuit file.
use Rattle.std.specs.Prelude.{ℕ, ◌-◌, ◌^◌, Bool, ◌&&◌, ◌==◌, List, [], ◌++◌, length, if◌then◌else◌, codes}
use Rattle.std.specs.List.{flat_map}
use Rattle.std.specs.Int.{w8, w16, w32, to_be_bytes}
use Rattle.heco_nums.specs.Presets.{modulus_of, slots_of}
use Rattle.heco_nums.specs.declared.shape.Shape.{Shape}
use Rattle.heco_fields.specs.Formats.{Format, Value, Field, number, within, versioned, versioned_text, many, ◌>>=◌}
use Rattle.heco_nums.specs.Runs.{along, stays}
use Rattle.heco_fields.specs.declared.header.Header.{Header}
use Rattle.heco_circuit.specs.declared.gate.Cell.{Cell}
use Rattle.heco_circuit.specs.declared.gate.Cell.TheVariants.{Number, Slot}
use Rattle.heco_circuit.specs.declared.gate.Gate.{Gate}
use Rattle.heco_circuit.specs.declared.gate.Output.{Output}
use Rattle.heco_circuit.specs.Validity.{is_between, with_gate}
use Rattle.heco_circuit.specs.Versions.{newest, version_of}
use Rattle.heco_circuit.specs.GateFormat.{wire_with, gate, gate_text}
use Rattle.heco_circuit.specs.VectorFormat.{vectors, vectors_text}
use Rattle.heco_circuit.specs.Plans.{Plan, is_new, push, input_parts}

-- its length, and its bytes
unfoldable pub name : List Shape → List Output → Format (List ℕ)
name inputs outputs = do
  len ← within w32 1 (2 ^ 20)
  Field len (is_new inputs outputs) (λ b. Value b)

unfoldable pub input : ℕ → List Shape → Format Shape
input slots earlier = do
  text ← name earlier []
  len ← within w16 1 slots
  Value (record { name = text; len = len })

unfoldable pub number_cell : ℕ → Format Cell
number_cell t = do
  n ← within w32 0 (t - 1)
  Value (Number n)

unfoldable pub slot_cell : ℕ → List ℕ → Format Cell
slot_cell slots parts = do
  wire ← wire_with 2 parts
  slot ← within w16 0 (slots - 1)
  Value (Slot wire slot)

unfoldable pub cell : ℕ → ℕ → List ℕ → Format Cell
cell t slots parts = do
  kind ← within w8 0 1
  if kind == 0 then number_cell t else slot_cell slots parts

unfoldable pub output : ℕ → ℕ → List Shape → List ℕ → List Output → Format Output
output t slots inputs parts earlier = do
  text ← name inputs earlier
  count ← within w16 1 4096
  cells ← many (cell t slots) stays count parts
  Value (record { name = text; cells = cells })

unfoldable pub inputs : ℕ → Format (List Shape)
inputs id = do
  count ← within w16 0 256
  many (input (slots_of id)) push count []

unfoldable pub gates : ℕ → ℕ → ℕ → List ℕ → Format (List Gate)
gates version id vectors parts = do
  count ← within w32 0 (2 ^ 25 - 1)
  many (gate version (modulus_of id) (slots_of id) vectors) with_gate count parts

-- here the vectors and the gates are known: the version is theirs, or this field is broken
abbrev pub is_output_count : ℕ → List Shape → List (List ℕ) → List Gate → ℕ → Bool
is_output_count version inputs vectors gates count = version == version_of vectors gates && is_between 0 (256 - length inputs) count

unfoldable pub outputs : ℕ → ℕ → List Shape → List (List ℕ) → List Gate → List ℕ → Format (List Output)
outputs version id inputs vectors gates parts = do
  count ← number w16 (is_output_count version inputs vectors gates)
  many (output (modulus_of id) (slots_of id) inputs parts) push count []

abbrev pub plan_with : ℕ → List Shape → List (List ℕ) → List Gate → List Output → Plan
plan_with id i v g o = record { preset = id; inputs = i; vectors = v; gates = g; outputs = o }

-- without vectors
abbrev pub plan : ℕ → List Shape → List Gate → List Output → Plan
plan id i g o = plan_with id i [] g o

unfoldable pub circuit : Format Plan
circuit = do
  h ← versioned newest (codes "HCIR")
  i ← inputs h.preset
  v ← vectors h.version h.preset
  g ← gates h.version h.preset (length v) (input_parts i)
  o ← outputs h.version h.preset i v g (along with_gate (input_parts i) g)
  Value (plan_with h.preset i v g o)

abbrev pub name_text : List ℕ → List ℕ
name_text text = to_be_bytes w32 (length text) ++ text

abbrev pub input_text : Shape → List ℕ
input_text s = name_text s.name ++ to_be_bytes w16 s.len

abbrev pub cell_text : Cell → List ℕ
cell_text (Number n) = to_be_bytes w8 0 ++ to_be_bytes w32 n
cell_text (Slot wire slot) = to_be_bytes w8 1 ++ to_be_bytes w32 wire ++ to_be_bytes w16 slot

abbrev pub output_text : Output → List ℕ
output_text o = name_text o.name ++ to_be_bytes w16 (length o.cells) ++ flat_map cell_text o.cells

-- a count, and then each value
abbrev pub inputs_text : List Shape → List ℕ
inputs_text xs = to_be_bytes w16 (length xs) ++ flat_map input_text xs

abbrev pub gates_text : List Gate → List ℕ
gates_text xs = to_be_bytes w32 (length xs) ++ flat_map gate_text xs

abbrev pub outputs_text : List Output → List ℕ
outputs_text xs = to_be_bytes w16 (length xs) ++ flat_map output_text xs

abbrev pub header_of : Plan → Header
header_of p = record { version = version_of p.vectors p.gates; preset = p.preset }

-- the one spelling of a circuit
abbrev pub circuit_text : Plan → List ℕ
circuit_text p = versioned_text (codes "HCIR") (header_of p)
    ++ (inputs_text p.inputs ++ (vectors_text p.vectors ++ (gates_text p.gates ++ outputs_text p.outputs)))
