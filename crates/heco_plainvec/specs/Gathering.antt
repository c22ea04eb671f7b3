-- Which multiples of a wire one product by a plain vector replaces, and by which vector: the multiples that only output cells
-- read, each constant at the slots that are asked of it.
use Rattle.std.specs.Prelude.{ℕ, ◌+◌, ◌-◌, ◌^◌, ◌≤◌, Bool, true, ◌&&◌, ◌==◌, not, List, [], ◌∷◌, length, map, take, filter}
use Rattle.std.specs.Prelude.{filter_map, flat_map, Option, Some, None, slice_index, nat_le, nat_lt, if◌then◌else◌}
use Rattle.std.specs.List.{list_any, range_with_len, enumerate_from}
use Rattle.heco_nums.specs.Presets.{slots_of}
use Rattle.heco_noise.specs.Rows.{passes, weighed}
use Rattle.heco_circuit.specs.declared.gate.Cell.{Cell}
use Rattle.heco_circuit.specs.declared.gate.Cell.TheVariants.{Number, Slot}
use Rattle.heco_circuit.specs.declared.gate.Gate.{Gate}
use Rattle.heco_circuit.specs.declared.gate.Gate.TheVariants.{Scale}
use Rattle.heco_circuit.specs.Bounds.{vector_weight_of}
use Rattle.heco_circuit.specs.CircuitFormat.{circuit_text}
use Rattle.heco_circuit.specs.Plans.{Plan}
use Rattle.heco_rewrites.specs.Needed.{reads}
use Rattle.heco_plainvec.specs.declared.multiple.Multiple.{Multiple}
use Rattle.heco_plainvec.specs.declared.multiple.Asked.{Asked}
use Rattle.heco_thrift.specs.Homes.{all_cells}
use Rattle.heco_thrift.specs.Thrift.{bounds_of}

-- a gate reads it
abbrev pub is_read : Plan → ℕ → Bool
is_read c wire = list_any (λ g. reads g wire) c.gates

-- only output cells read it
abbrev pub cell_only : Plan → ℕ → Bool
cell_only c wire = not (is_read c wire)

-- a multiple of the wire a, by this gate: its own wire, and the constant
abbrev pub multiple_where : Bool → ℕ → ℕ → Gate → Option Multiple
multiple_where only a wire (Scale k x) = if x == a && only then Some (record { wire = wire; by = k }) else None
multiple_where only a wire g = None

abbrev pub multiple_of : (ℕ → Bool) → ℕ → ℕ × Gate → Option Multiple
multiple_of only a x = multiple_where (only x.0) a x.0 x.1

-- each gate with its wire
abbrev pub numbered : Plan → List (ℕ × Gate)
numbered c = enumerate_from (length c.inputs) c.gates

-- the multiples of a that only output cells read, in order
abbrev pub multiples : Plan → ℕ → List Multiple
multiples c a = filter_map (multiple_of (cell_only c) a) (numbered c)

-- what is asked by a slot of this wire: the slot, and the constant that is wanted there
abbrev pub asked_at : ℕ → ℕ → Multiple → Option Asked
asked_at wire slot m = if m.wire == wire then Some (record { slot = slot; by = m.by }) else None

abbrev pub asked_by : List Multiple → Cell → List Asked
asked_by ms (Number n) = []
asked_by ms (Slot wire slot) = filter_map (asked_at wire slot) ms

-- what the output cells ask of the multiples of a, in order
abbrev pub asked : Plan → ℕ → List Asked
asked c a = flat_map (asked_by (multiples c a)) (all_cells c)

abbrev pub differs : Asked → Asked → Bool
differs x y = x.slot == y.slot && not (x.by == y.by)

-- no slot is asked with two constants
abbrev pub agree : List Asked → Bool
agree [] = true
agree (x ∷ xs) = not (list_any (differs x) xs) && agree xs

-- the constant that is asked at a slot, else 0
abbrev pub at_slot : List Asked → ℕ → ℕ
at_slot [] j = 0
at_slot (x ∷ xs) j = if x.slot == j then x.by else at_slot xs j

-- each constant at the slots that are asked of it, else 0, under the preset of this number
abbrev pub vector_of : ℕ → List Asked → List ℕ
vector_of id asks = map (at_slot asks) (range_with_len 0 (slots_of id))

-- for the multiples of a
abbrev pub vector : Plan → ℕ → List ℕ
vector c a = vector_of c.preset (asked c a)

-- the bound of a times that vector
abbrev pub weighed_bound : Plan → ℕ → ℕ
weighed_bound c a = weighed (vector_weight_of c.preset (vector c a)) (slice_index (bounds_of c) a)

-- one product serves for the multiples of a: there are at least two, they agree, and its bound doesn't pass
unfoldable pub serves : Plan → ℕ → Bool
serves c a = nat_le 2 (length (multiples c a)) && (agree (asked c a) && not (passes (weighed_bound c a)))

-- the greatest number of vectors
abbrev pub most_vectors : ℕ
most_vectors = 256

-- the rule would replace the multiples of a by a product
unfoldable pub finds : Plan → ℕ → Bool
finds c a = nat_lt (length c.vectors) most_vectors && serves c a

abbrev pub wires : Plan → List ℕ
wires c = range_with_len 0 (length c.inputs + length c.gates)

-- the wires whose multiples are replaced: the first for which a product serves, as many as there is room for vectors
unfoldable pub chosen : Plan → List ℕ
chosen c = take (most_vectors - length c.vectors) (filter (serves c) (wires c))

-- its file leaves room for the vectors, which take less than 2^20 bytes
abbrev pub HasRoom : Plan → Type 0
HasRoom c = length (circuit_text c) ≤ 2 ^ 29 - 2 ^ 20
