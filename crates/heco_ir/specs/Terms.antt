-- The terms of nodes.
use Rattle.std.specs.Prelude.{◌≡◌, ℕ, ◌<◌, ◌≤◌, List, [], ◌∷◌, ◌+◌, ◌++◌, length, map, slice_index_or}
use Rattle.heco_written.specs.ScalarTerm.{ScalarTerm, Number, Element, Sum, Product, Negation}
use Rattle.heco_written.specs.VectorTerm.{VectorTerm, Input, Negated, Added, Multiplied, Scaled, Shifted, Turned}
use Rattle.heco_ir.specs.declared.dialect.NodeId.{NodeId}
use Rattle.heco_ir.specs.declared.scalar.SNode.{SNode}
use Rattle.heco_ir.specs.declared.scalar.SNode.TheVariants.{Num, Elem, Sum as SumNode, Prod, Neg as NegNode}
use Rattle.heco_ir.specs.declared.vector.VNode.{VNode}
use Rattle.heco_ir.specs.declared.vector.VNode.TheVariants.{Input as InputNode, Neg, Add, Mul, Scale, Shift, Turn}
use Rattle.heco_ir.specs.Arena.{built}

abbrev pub scalar_at : List ScalarTerm → NodeId → ScalarTerm
scalar_at ts d = slice_index_or ts d.0 (Number 0)

-- the term of a node over the terms of the nodes before it
abbrev pub scalar_term_over : List ScalarTerm → SNode → ScalarTerm
scalar_term_over ts (Num c) = Number c
scalar_term_over ts (Elem a i) = Element a i
scalar_term_over ts (SumNode x y) = Sum (scalar_at ts x) (scalar_at ts y)
scalar_term_over ts (Prod x y) = Product (scalar_at ts x) (scalar_at ts y)
scalar_term_over ts (NegNode x) = Negation (scalar_at ts x)

abbrev pub scalar_terms : List SNode → List ScalarTerm
scalar_terms ns = built scalar_term_over ns

abbrev pub vector_at : List VectorTerm → NodeId → VectorTerm
vector_at ts d = slice_index_or ts d.0 (Input 0)

abbrev pub vector_term_over : List VectorTerm → VNode → VectorTerm
vector_term_over ts (InputNode a) = Input a
vector_term_over ts (Neg v) = Negated (vector_at ts v)
vector_term_over ts (Add v u) = Added (vector_at ts v) (vector_at ts u)
vector_term_over ts (Mul v u) = Multiplied (vector_at ts v) (vector_at ts u)
vector_term_over ts (Scale c v) = Scaled c (vector_at ts v)
vector_term_over ts (Shift c v) = Shifted c (vector_at ts v)
vector_term_over ts (Turn r v) = Turned r (vector_at ts v)

abbrev pub vector_terms : List VNode → List VectorTerm
vector_terms ns = built vector_term_over ns

-- the terms at ids
abbrev pub terms_at : List VNode → List ℕ → List VectorTerm
terms_at ns ids = map (λ i. slice_index_or (vector_terms ns) i (Input 0)) ids

-- the node at an id has a term
pub record HasTerm (nodes : List VNode) (id : ℕ) (term : VectorTerm) : Type 0 where
  pub within : id < length nodes
  pub is : slice_index_or (vector_terms nodes) id (Input 0) ≡ term

-- a product counts two
abbrev pub weight : VNode → ℕ
weight (Mul v u) = 2
weight n = 1

abbrev pub total_weight : List VNode → ℕ
total_weight [] = 0
total_weight (n ∷ ns) = weight n + total_weight ns

-- nodes stand, and at most some are added, a product counting two
pub record Extends (most : ℕ) (old new : List VNode) : Type 0 where
  pub added : List VNode
  pub is : new ≡ old ++ added
  pub few : total_weight added ≤ most
