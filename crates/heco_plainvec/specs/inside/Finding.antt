-- What is found of each wire and of each gate on the way.
use Rattle.std.specs.Prelude.{◌≡◌, ℕ, ◌≤◌, ◌<◌, ◌&&◌, Bool, not, List, length, Option, Some, None, slice_index, nat_le, nat_lt, if◌then◌else◌}
use Rattle.std.specs.Option.{option_map}
use Rattle.heco_nums.specs.Presets.{modulus_of, slots_of}
use Rattle.heco_noise.specs.Rows.{passes, weighed}
use Rattle.heco_circuit.specs.declared.gate.Gate.{Gate}
use Rattle.heco_circuit.specs.declared.gate.Gate.TheVariants.{Scale}
use Rattle.heco_circuit.specs.Bounds.{vector_weight_of}
use Rattle.heco_circuit.specs.Plans.{Plan}
use Rattle.heco_rewrites.specs.Wires.{maker}
use Rattle.heco_rewrites.specs.Needed.{has}
use Rattle.heco_plainvec.specs.declared.multiple.Multiple.{Multiple}
use Rattle.heco_plainvec.specs.declared.multiple.Asked.{Asked}
use Rattle.heco_plainvec.specs.declared.multiple.Scaled.{Scaled}
use Rattle.heco_plainvec.specs.declared.multiple.Product.{Product}
use Rattle.heco_plainvec.specs.declared.multiple.Replacing.{Replacing}
use Rattle.heco_plainvec.specs.declared.rewriting.Image.{Image}
use Rattle.heco_plainvec.specs.declared.rewriting.Image.TheVariants.{Stands, Goes}
use Rattle.heco_plainvec.specs.Gathering.{cell_only, agree, vector_of, most_vectors, chosen}
use Rattle.heco_plainvec.specs.Gathered.{first_multiple, vector_number, leader, gathered_gate}

-- a slot of the preset of this number, and a constant of its multiples
abbrev pub IsAsk : ℕ → Asked → Type 0
IsAsk id x = (x.slot < slots_of id) × (1 ≤ x.by) × (x.by < modulus_of id)

-- what a gate multiplies by a constant, if only output cells read its wire
abbrev pub scaled_where : Bool → Gate → Option Scaled
scaled_where only (Scale k a) = if only then Some (record { of = a; by = k }) else None
scaled_where only g = None

abbrev pub scaled_by_maker : Bool → Option Gate → Option Scaled
scaled_by_maker only (Some g) = scaled_where only g
scaled_by_maker only None = None

abbrev pub scaled_at : Plan → ℕ → Option Scaled
scaled_at c wire = scaled_by_maker (cell_only c wire) (maker (length c.inputs) c.gates wire)

-- the vector by which one product serves for these multiples of a wire of this bound, where one does
abbrev pub product_by : ℕ → List Multiple → List Asked → ℕ → Option (List ℕ)
product_by id ms asks bound =
    if nat_le 2 (length ms) && (agree asks && not (passes (weighed (vector_weight_of id (vector_of id asks)) bound))) then Some (vector_of id asks) else None

-- where fewer vectors stand than there may be
abbrev pub where_room : ℕ → Option (List ℕ) → Option (List ℕ)
where_room count found = if nat_lt count most_vectors then found else None

abbrev pub numbered_product : ℕ → ℕ → List ℕ → Product
numbered_product number first v = record { vector = number; first = first }

-- the product in place of the multiples of a chosen wire
abbrev pub product_at : Plan → ℕ → Option Product
product_at c a = if has (chosen c) a then Some (record { vector = vector_number c a; first = first_multiple c a }) else None

abbrev pub replacing_by : ℕ → Product → Replacing
replacing_by of product = record { of = of; product = product }

abbrev pub replacing_where : Plan → Option Scaled → Option Replacing
replacing_where c (Some s) = option_map (replacing_by s.of) (product_at c s.of)
replacing_where c None = None

abbrev pub replacing : Plan → ℕ → Gate → Option Replacing
replacing c wire g = replacing_where c (scaled_where (cell_only c wire) g)

-- what comes of the gate g of a wire
abbrev pub IsImage : Plan → ℕ → Gate → Image → Type 0
IsImage c wire g (Stands h) = (gathered_gate c (wire, g) ≡ Some h) × (leader c wire ≡ wire)
IsImage c wire g (Goes first) = (gathered_gate c (wire, g) ≡ None) × (leader c wire ≡ first) × (first < wire)

abbrev pub standing : Image → Option Gate
standing (Stands h) = Some h
standing (Goes first) = None

-- the new number of its wire
abbrev pub new_name : List ℕ → ℕ → Image → ℕ
new_name names next (Stands h) = next
new_name names next (Goes first) = slice_index names first
