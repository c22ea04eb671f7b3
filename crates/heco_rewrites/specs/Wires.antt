-- What is known of each wire of a circuit (its parts, its bound and its slots), and gates over wires under other numbers.
use Rattle.std.specs.Prelude.{◌≡◌, ◌≤◌, ◌<◌, ◌-◌, ℕ, List, [], ◌∷◌, length, map, slice_index, slice_get, nat_lt, Contains, Option, None, if◌then◌else◌}
use Rattle.heco_nums.specs.Presets.{modulus_of, slots_of}
use Rattle.heco_circuit.specs.declared.gate.Cell.{Cell}
use Rattle.heco_circuit.specs.declared.gate.Cell.TheVariants.{Number, Slot}
use Rattle.heco_circuit.specs.declared.gate.Gate.{Gate}
use Rattle.heco_circuit.specs.declared.gate.Gate.TheVariants.{Neg, Add, Sub, Mul, Relin, Scale, Shift, Turn, Weigh}
use Rattle.heco_circuit.specs.declared.gate.Output.{Output}
use Rattle.heco_circuit.specs.Validity.{with_gate}
use Rattle.heco_circuit.specs.Bounds.{weights_of, fresh_bounds, with_bound}
use Rattle.heco_circuit.specs.Plans.{Plan, input_parts}
use Rattle.heco_meaning.specs.Meanings.{wire_at, with_wire, filled}

pub record Wires : Type 0 where
  pub parts : List ℕ
  pub bounds : List ℕ
  pub slots : List (List ℕ)

-- the wires with that of the gate, under the preset of this number and beside these plain vectors
abbrev pub behind : ℕ → List (List ℕ) → Wires → Gate → Wires
behind id vectors w g = record {
  parts = with_gate w.parts g;
  bounds = with_bound id (weights_of id vectors) w.bounds g;
  slots = with_wire (modulus_of id) vectors w.slots g;
}

-- the wires of the inputs, for these rows
abbrev pub first_wires : Plan → List (List ℕ) → Wires
first_wires c rows = record { parts = input_parts c.inputs; bounds = fresh_bounds c.preset c.inputs; slots = map (filled (slots_of c.preset)) rows }

-- one entry for each wire
pub record Even (w : Wires) : Type 0 where
  pub bounds : length w.bounds ≡ length w.parts
  pub slots : length w.slots ≡ length w.parts

-- the wires that a gate reads
abbrev pub operands : Gate → List ℕ
operands (Neg a) = a ∷ []
operands (Add a b) = a ∷ b ∷ []
operands (Sub a b) = a ∷ b ∷ []
operands (Mul a b) = a ∷ b ∷ []
operands (Relin a) = a ∷ []
operands (Scale c a) = a ∷ []
operands (Shift c a) = a ∷ []
operands (Turn r a) = a ∷ []
operands (Weigh v a) = a ∷ []

-- the gate over the wires of these names
abbrev pub over : (ℕ → ℕ) → Gate → Gate
over name (Neg a) = Neg (name a)
over name (Add a b) = Add (name a) (name b)
over name (Sub a b) = Sub (name a) (name b)
over name (Mul a b) = Mul (name a) (name b)
over name (Relin a) = Relin (name a)
over name (Scale c a) = Scale c (name a)
over name (Shift c a) = Shift c (name a)
over name (Turn r a) = Turn r (name a)
over name (Weigh v a) = Weigh v (name a)

-- the gate that makes a wire behind so many inputs
abbrev pub maker : ℕ → List Gate → ℕ → Option Gate
maker count gates a = if nat_lt a count then None else slice_get gates (a - count)

abbrev pub cell_over : (ℕ → ℕ) → Cell → Cell
cell_over name (Number n) = Number n
cell_over name (Slot wire slot) = Slot (name wire) slot

abbrev pub output_over : (ℕ → ℕ) → Output → Output
output_over name o = record { name = o.name; cells = map (cell_over name) o.cells }

-- the wire of this name stands for an old wire: as many parts, the same slots, no greater bound
pub record StandsFor (old new : Wires) (a name : ℕ) : Type 0 where
  pub within : name < length new.parts
  pub parts : slice_index new.parts name ≡ slice_index old.parts a
  pub bounds : slice_index new.bounds name ≤ slice_index old.bounds a
  pub slots : wire_at new.slots name ≡ wire_at old.slots a

-- so does the wire of each operand's name
abbrev pub OperandsStand : (ℕ → ℕ) → Wires → Wires → Gate → Type 0
OperandsStand name old new g = (a : ℕ) → Contains (operands g) a → StandsFor old new a (name a)

-- each old wire has a name, and the wire of that name stands for it
pub record Named (names : List ℕ) (old new : Wires) : Type 0 where
  pub count : length names ≡ length old.parts
  pub old_even : Even old
  pub new_even : Even new
  pub each : (a : ℕ) → a < length old.parts → StandsFor old new a (slice_index names a)

-- the vectors ws have those of vs first
pub record Keeps (vs ws : List (List ℕ)) : Type 0 where
  pub few : length vs ≤ length ws
  pub each : (v : ℕ) → v < length vs → wire_at ws v ≡ wire_at vs v
