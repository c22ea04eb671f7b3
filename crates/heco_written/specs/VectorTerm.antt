-- Vector terms and the values of their slots.
use Rattle.std.specs.Prelude.{ℕ, zero, suc, ◌+◌, ◌-◌, ◌*◌, ◌%◌, slice_index, slice_index_or, [], Bool, false, ◌&&◌, nat_eq}
use Rattle.heco_written.specs.World.{World}

-- a vector of slots, written in the inputs
pub data VectorTerm : Type 0 where
  Input : ℕ → VectorTerm
  Negated : VectorTerm → VectorTerm
  Added : VectorTerm → VectorTerm → VectorTerm
  Multiplied : VectorTerm → VectorTerm → VectorTerm
  Scaled : ℕ → VectorTerm → VectorTerm
  Shifted : ℕ → VectorTerm → VectorTerm
  Turned : ℕ → VectorTerm → VectorTerm

-- the value of one slot under given inputs
abbrev pub slot_value : World → VectorTerm → ℕ → ℕ
slot_value w (Input a) j = slice_index (slice_index_or w.inputs a []) j % w.modulus
slot_value w (Negated v) j = (w.modulus - slot_value w v j) % w.modulus
slot_value w (Added v u) j = (slot_value w v j + slot_value w u j) % w.modulus
slot_value w (Multiplied v u) j = (slot_value w v j * slot_value w u j) % w.modulus
slot_value w (Scaled c v) j = (c * slot_value w v j) % w.modulus
slot_value w (Shifted c v) j = (slot_value w v j + c) % w.modulus
slot_value w (Turned r v) j = slot_value w v ((j + r) % w.slots)

-- the turn by an amount, which for none is the vector itself
abbrev pub turned_by : ℕ → VectorTerm → VectorTerm
turned_by zero v = v
turned_by (suc r) v = Turned (suc r) v

-- whether two vector terms are one
abbrev pub same_vector : VectorTerm → VectorTerm → Bool
same_vector (Input a) (Input b) = nat_eq a b
same_vector (Negated v) (Negated u) = same_vector v u
same_vector (Added v v2) (Added u u2) = same_vector v u && same_vector v2 u2
same_vector (Multiplied v v2) (Multiplied u u2) = same_vector v u && same_vector v2 u2
same_vector (Scaled c v) (Scaled d u) = nat_eq c d && same_vector v u
same_vector (Shifted c v) (Shifted d u) = nat_eq c d && same_vector v u
same_vector (Turned r v) (Turned s u) = nat_eq r s && same_vector v u
same_vector v u = false
