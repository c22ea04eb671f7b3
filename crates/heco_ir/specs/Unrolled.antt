-- Scalar nodes that are batched: what is asked of them, and the terms of their roots.
use Rattle.std.specs.Prelude.{◌≡◌, ℕ, ◌+◌, ◌<◌, List, [], ◌∷◌, map, Some, slice_get, slice_index_or, Contains}
use Rattle.heco_written.specs.ScalarTerm.{ScalarTerm, IsMade, Number}
use Rattle.heco_ir.specs.declared.scalar.SNode.{SNode}
use Rattle.heco_ir.specs.declared.scalar.SNode.TheVariants.{Num, Elem}
use Rattle.heco_ir.specs.Terms.{scalar_terms}

-- each term is one that sums, products and negations make
abbrev pub AllMade : ℕ → ℕ → List ScalarTerm → Type 0
AllMade modulus slots xs = (k : ℕ) (x : ScalarTerm) → slice_get xs k ≡ Some x → IsMade modulus slots x

-- the elements are of the first inputs
abbrev pub AllElementsBelow : ℕ → List SNode → Type 0
AllElementsBelow inputs ns = (a i : ℕ) → Contains ns (Elem a i) → a < inputs

-- sums, products and negations
abbrev pub operation : SNode → ℕ
operation (Num c) = 0
operation (Elem a i) = 0
operation n = 1

abbrev pub operations : List SNode → ℕ
operations [] = 0
operations (n ∷ ns) = operation n + operations ns

-- the terms of the roots
abbrev pub root_terms : List SNode → List ℕ → List ScalarTerm
root_terms ns roots = map (λ i. slice_index_or (scalar_terms ns) i (Number 0)) roots
