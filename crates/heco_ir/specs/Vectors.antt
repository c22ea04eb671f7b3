-- What vector nodes hold.
use Rattle.std.specs.Prelude.{◌≡◌, ℕ, ◌+◌, ◌-◌, ◌*◌, ◌%◌, List, [], ◌∷◌, map, slice_index, slice_index_or}
use Rattle.std.specs.List.{range_with_len}
use Rattle.heco_written.specs.World.{World}
use Rattle.heco_written.specs.VectorTerm.{VectorTerm, slot_value}
use Rattle.heco_ir.specs.declared.vector.VNode.{VNode}
use Rattle.heco_ir.specs.declared.vector.VNode.TheVariants.{Input, Neg, Add, Mul, Scale, Shift, Turn}

abbrev pub vector_operands : VNode → List ℕ
vector_operands (Input a) = []
vector_operands (Neg v) = v.0 ∷ []
vector_operands (Add v w) = v.0 ∷ w.0 ∷ []
vector_operands (Mul v w) = v.0 ∷ w.0 ∷ []
vector_operands (Scale c v) = v.0 ∷ []
vector_operands (Shift c v) = v.0 ∷ []
vector_operands (Turn r v) = v.0 ∷ []

-- the same operation, with the same constants, on whatever operands
abbrev pub SameVectorOperation : VNode → VNode → Type 0
SameVectorOperation (Input a) (Input b) = a ≡ b
SameVectorOperation (Neg v) (Neg u) = Unit {0}
SameVectorOperation (Add v w) (Add x y) = Unit {0}
SameVectorOperation (Mul v w) (Mul x y) = Unit {0}
SameVectorOperation (Scale c v) (Scale d u) = c ≡ d
SameVectorOperation (Shift c v) (Shift d u) = c ≡ d
SameVectorOperation (Turn r v) (Turn s u) = r ≡ s
SameVectorOperation n m = ⊥

-- a list of slots, each from its number
abbrev pub each_slot : World → (ℕ → ℕ) → List ℕ
each_slot w f = map f (range_with_len 0 w.slots)

-- slot j of an operand
abbrev pub slot_of : List (List ℕ) → ℕ → ℕ → ℕ
slot_of vs k j = slice_index (slice_index_or vs k []) j

-- what a node holds, slot by slot, over what its operands hold
abbrev pub vector_value : World → VNode → List (List ℕ) → List ℕ
vector_value w (Input a) vs = each_slot w (λ j. slice_index (slice_index_or w.inputs a []) j % w.modulus)
vector_value w (Neg v) vs = each_slot w (λ j. (w.modulus - slot_of vs 0 j) % w.modulus)
vector_value w (Add v u) vs = each_slot w (λ j. (slot_of vs 0 j + slot_of vs 1 j) % w.modulus)
vector_value w (Mul v u) vs = each_slot w (λ j. (slot_of vs 0 j * slot_of vs 1 j) % w.modulus)
vector_value w (Scale c v) vs = each_slot w (λ j. (c * slot_of vs 0 j) % w.modulus)
vector_value w (Shift c v) vs = each_slot w (λ j. (slot_of vs 0 j + c) % w.modulus)
vector_value w (Turn r v) vs = each_slot w (λ j. slot_of vs 0 ((j + r) % w.slots))

-- the slots of a term
abbrev pub vector_slots : World → VectorTerm → List ℕ
vector_slots w v = each_slot w (slot_value w v)
