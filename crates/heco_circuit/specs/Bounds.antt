-- The written bound of the noise of each wire, a product and its relinearisation as gates of their own. Each plain vector
-- counts by its weight.
use Rattle.std.specs.Prelude.{ℕ, ◌+◌, ◌^◌, ◌<◌, Bool, true, List, [], ◌∷◌, ◌++◌, map, Option, Some, None, slice_index, if◌then◌else◌, nat_lt}
use Rattle.heco_nums.specs.Presets.{degree_of, slots_of, modulus_of, hamming_weight_of, error_of, root_of, inverse_of}
use Rattle.heco_noise.specs.Rows.{passes}
use Rattle.heco_noise.specs.Rows as rows
use Rattle.heco_nums.specs.Runs.{along}
use Rattle.heco_slots.specs.Weighing.{vector_weight_by}
use Rattle.heco_circuit.specs.declared.gate.Gate.{Gate}
use Rattle.heco_circuit.specs.declared.gate.Gate.TheVariants.{Neg, Add, Sub, Mul, Relin, Scale, Shift, Turn, Weigh}

-- of a fresh encryption under the preset of this number
abbrev pub fresh_of : ℕ → ℕ
fresh_of id = rows.fresh (modulus_of id) (hamming_weight_of id) (error_of id)

-- of each input
abbrev pub fresh_bounds : {A : Type 0} → ℕ → List A → List ℕ
fresh_bounds id [] = []
fresh_bounds id (s ∷ inputs) = fresh_of id ∷ fresh_bounds id inputs

-- of a plain vector
abbrev pub vector_weight_of : ℕ → List ℕ → ℕ
vector_weight_of id v = vector_weight_by (degree_of id) (slots_of id) (modulus_of id) (root_of id) (inverse_of id) v

-- light enough for the written bounds
abbrev pub IsLight : ℕ → Type 0
IsLight s = s < 2 ^ 26

-- of all vectors
abbrev pub weights_of : ℕ → List (List ℕ) → List ℕ
weights_of id vectors = map (vector_weight_of id) vectors

-- of a gate behind wires of these bounds, where the vectors have these weights
abbrev pub bound_of : ℕ → List ℕ → List ℕ → Gate → ℕ
bound_of id weights bounds (Neg a) = slice_index bounds a
bound_of id weights bounds (Add a b) = rows.added (slice_index bounds a) (slice_index bounds b)
bound_of id weights bounds (Sub a b) = rows.added (slice_index bounds a) (slice_index bounds b)
bound_of id weights bounds (Mul a b) = rows.multiplied (degree_of id) (modulus_of id) (hamming_weight_of id) (slice_index bounds a) (slice_index bounds b)
bound_of id weights bounds (Relin a) = rows.turned (modulus_of id) (degree_of id) (error_of id) (slice_index bounds a)
bound_of id weights bounds (Scale c a) = rows.scaled_by (modulus_of id) c (slice_index bounds a)
bound_of id weights bounds (Shift c a) = rows.shifted (modulus_of id) (slice_index bounds a)
bound_of id weights bounds (Turn r a) = rows.turned (modulus_of id) (degree_of id) (error_of id) (slice_index bounds a)
bound_of id weights bounds (Weigh v a) = rows.weighed (slice_index weights v) (slice_index bounds a)

-- the bounds of the wires with that of the gate
abbrev pub with_bound : ℕ → List ℕ → List ℕ → Gate → List ℕ
with_bound id weights bounds g = bounds ++ bound_of id weights bounds g ∷ []

-- of all wires, behind so many inputs
abbrev pub wire_bounds : {A : Type 0} → ℕ → List ℕ → List A → List Gate → List ℕ
wire_bounds id weights inputs gates = along (with_bound id weights) (fresh_bounds id inputs) gates

-- the first gate whose bound passes, counted from this number, and its bound
abbrev pub first_passing : ℕ → List ℕ → ℕ → List ℕ → List Gate → Option (ℕ × ℕ)
first_passing id weights number bounds [] = None
first_passing id weights number bounds (g ∷ gates) =
    if passes (bound_of id weights bounds g) then Some (number, bound_of id weights bounds g)
    else first_passing id weights (number + 1) (with_bound id weights bounds g) gates

-- the constant of a multiple is below t
abbrev pub is_below : ℕ → Gate → Bool
is_below t (Scale c a) = nat_lt c t
is_below t g = true
