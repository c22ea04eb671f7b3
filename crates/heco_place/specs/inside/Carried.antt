-- What it is for a wire behind gates to carry a vector term.
use Rattle.std.specs.Prelude.{◌≡◌, ℕ, ◌+◌, ◌<◌, ◌≤◌, Bool, true, cond, List, [], length, map, slice_index, slice_index_or}
use Rattle.heco_nums.specs.Presets.{modulus_of, slots_of}
use Rattle.heco_nums.specs.declared.shape.Shape.{Shape}
use Rattle.heco_noise.specs.Rows.{key_switch}
use Rattle.heco_nums.specs.Runs.{along}
use Rattle.heco_thrift.specs.Homes.{world_of}
use Rattle.heco_written.specs.VectorTerm.{VectorTerm}
use Rattle.heco_written.specs.Bound.{Scheme, bound, scheme_of}
use Rattle.heco_ir.specs.Vectors.{vector_slots}
use Rattle.heco_circuit.specs.declared.gate.Gate.{Gate}
use Rattle.heco_circuit.specs.Validity.{is_gate, parts_of, with_gate}
use Rattle.heco_circuit.specs.Bounds.{fresh_bounds, bound_of, with_bound}
use Rattle.heco_circuit.specs.Plans.{input_parts}
use Rattle.heco_meaning.specs.Meanings.{wire_of, with_wire, filled}

-- a row for each input, no longer than the slots, of values below the modulus
pub record AreRows (id : ℕ) (inputs : List Shape) (rows : List (List ℕ)) : Type 0 where
  pub count : length rows ≡ length inputs
  pub short : (a : ℕ) → length (slice_index_or rows a []) ≤ slots_of id
  pub below : (a j : ℕ) → slice_index (slice_index_or rows a []) j < modulus_of id

-- the parts, the bounds and the slots of all wires
abbrev pub all_parts : List Shape → List Gate → List ℕ
all_parts inputs gates = along with_gate (input_parts inputs) gates

abbrev pub all_bounds : ℕ → List Shape → List Gate → List ℕ
all_bounds id inputs gates = along (with_bound id []) (fresh_bounds id inputs) gates

abbrev pub all_slots : ℕ → List (List ℕ) → List Gate → List (List ℕ)
all_slots id rows gates = along (with_wire (modulus_of id) []) (map (filled (slots_of id)) rows) gates

-- a long wire has three parts, any other two
abbrev pub parts_where : Bool → ℕ
parts_where long = cond long 3 2

-- what the bound of a long wire lacks: its relinearisation
abbrev pub share : Scheme → Bool → ℕ
share p long = cond long (key_switch p.modulus p.degree p.error) 0

-- The wire carries the term: it has its slots, and its bound leaves the share of the relinearisation that it lacks.
pub record Carries (id : ℕ) (inputs : List Shape) (gates : List Gate) (wire : ℕ) (long : Bool) (v : VectorTerm) : Type 0 where
  pub within : wire < length inputs + length gates
  pub parts_are : slice_index (all_parts inputs gates) wire ≡ parts_where long
  pub bound_within : slice_index (all_bounds id inputs gates) wire + share (scheme_of id) long ≤ bound (scheme_of id) v
  pub slots_are : (rows : List (List ℕ)) → AreRows id inputs rows → slice_index_or (all_slots id rows gates) wire [] ≡ vector_slots (world_of id rows) v

-- The gate may stand next, and its wire then carries the term.
pub record Gives (id : ℕ) (inputs : List Shape) (gates : List Gate) (gate : Gate) (long : Bool) (v : VectorTerm) : Type 0 where
  pub valid : is_gate (modulus_of id) (slots_of id) 0 (all_parts inputs gates) gate ≡ true
  pub parts_are : parts_of (all_parts inputs gates) gate ≡ parts_where long
  pub bound_within : bound_of id [] (all_bounds id inputs gates) gate + share (scheme_of id) long ≤ bound (scheme_of id) v
  pub slots_are : (rows : List (List ℕ)) → AreRows id inputs rows
      → wire_of (modulus_of id) [] (all_slots id rows gates) gate ≡ vector_slots (world_of id rows) v
