-- Scalar nodes without numbers, whose terms are made: what tests hand to batch.
use Rattle.std.specs.Prelude.{◌≡◌, ℕ, ◌<◌, ◌≤◌, List, length, false, Some, slice_get}
use Rattle.heco_written.specs.ScalarTerm.{ScalarTerm, IsMade, is_number}
use Rattle.heco_ir.specs.declared.scalar.SNode.{SNode}
use Rattle.heco_ir.specs.declared.scalar.SNode.TheVariants.{Num, Elem, Sum, Prod, Neg}
use Rattle.heco_ir.specs.Terms.{scalar_terms}
use Rattle.heco_ir.specs.Unrolled.{AllElementsBelow, operations}

-- an element in range, or an operation on the first nodes
abbrev pub IsPlain : ℕ → ℕ → SNode → Type 0
IsPlain slots count (Num c) = ⊥
IsPlain slots count (Elem a i) = (a < 256) × (i < slots)
IsPlain slots count (Sum x y) = (x.0 < count) × (y.0 < count)
IsPlain slots count (Prod x y) = (x.0 < count) × (y.0 < count)
IsPlain slots count (Neg x) = x.0 < count

pub record ArePlain (modulus slots count : ℕ) (ns : List SNode) : Type 0 where
  pub many : length ns ≡ count
  pub most : count ≤ 524288
  pub made : (k : ℕ) (x : ScalarTerm) → slice_get (scalar_terms ns) k ≡ Some x → IsMade modulus slots x × (is_number x ≡ false)
  pub elements : AllElementsBelow 256 ns
  pub few : operations ns ≤ count
