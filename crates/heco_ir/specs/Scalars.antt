-- What scalar nodes hold.
use Rattle.std.specs.Prelude.{◌≡◌, ℕ, ◌+◌, ◌-◌, ◌*◌, ◌%◌, List, [], ◌∷◌, slice_index, slice_index_or}
use Rattle.heco_written.specs.World.{World}
use Rattle.heco_ir.specs.declared.scalar.SNode.{SNode}
use Rattle.heco_ir.specs.declared.scalar.SNode.TheVariants.{Num, Elem, Sum, Prod, Neg}

abbrev pub scalar_operands : SNode → List ℕ
scalar_operands (Num c) = []
scalar_operands (Elem a i) = []
scalar_operands (Sum x y) = x.0 ∷ y.0 ∷ []
scalar_operands (Prod x y) = x.0 ∷ y.0 ∷ []
scalar_operands (Neg x) = x.0 ∷ []

-- the same operation, with the same constants, on whatever operands
abbrev pub SameScalarOperation : SNode → SNode → Type 0
SameScalarOperation (Num c) (Num d) = c ≡ d
SameScalarOperation (Elem a i) (Elem b j) = (a ≡ b) × (i ≡ j)
SameScalarOperation (Sum x y) (Sum u v) = Unit {0}
SameScalarOperation (Prod x y) (Prod u v) = Unit {0}
SameScalarOperation (Neg x) (Neg y) = Unit {0}
SameScalarOperation n m = ⊥

-- the number that an operand holds
abbrev pub held : List (List ℕ) → ℕ → ℕ
held vs k = slice_index (slice_index_or vs k []) 0

-- one number modulo t
abbrev pub scalar_node_value : World → SNode → List (List ℕ) → List ℕ
scalar_node_value w (Num c) vs = c % w.modulus ∷ []
scalar_node_value w (Elem a i) vs = slice_index (slice_index_or w.inputs a []) i % w.modulus ∷ []
scalar_node_value w (Sum x y) vs = (held vs 0 + held vs 1) % w.modulus ∷ []
scalar_node_value w (Prod x y) vs = (held vs 0 * held vs 1) % w.modulus ∷ []
scalar_node_value w (Neg x) vs = (w.modulus - held vs 0) % w.modulus ∷ []
