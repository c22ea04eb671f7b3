-- Dropping the nodes that no root uses.
use Rattle.std.specs.Prelude.{◌≡◌, ℕ, ◌<◌, ◌≤◌, ◌↔◌, Bool, true, List, length, map, Some, slice_get, slice_index_or, Contains, take}
use Rattle.heco_nums.specs.Needs.{IsRising}
use Rattle.heco_ir.specs.declared.dialect.NodeId.{NodeId}
use Rattle.heco_ir.specs.declared.scalar.SNode.{SNode}
use Rattle.heco_ir.specs.declared.vector.VNode.{VNode}
use Rattle.heco_ir.specs.declared.vector.VNode.TheVariants.{Input, Neg, Add, Mul, Scale, Shift, Turn}
use Rattle.heco_ir.specs.Values.{numbers, renamed, all_earlier}
use Rattle.heco_ir.specs.Vectors.{vector_operands}
use Rattle.heco_ir.specs.Used.{IsUsed}
use Rattle.heco_ir.specs.Ranges.{AllFit, gates_of_nodes}

-- a node over other ids
abbrev pub at_id : List NodeId → NodeId → NodeId
at_id ids v = slice_index_or ids v.0 v

abbrev pub over_ids : List NodeId → VNode → VNode
over_ids ids (Input a) = Input a
over_ids ids (Neg v) = Neg (at_id ids v)
over_ids ids (Add v u) = Add (at_id ids v) (at_id ids u)
over_ids ids (Mul v u) = Mul (at_id ids v) (at_id ids u)
over_ids ids (Scale c v) = Scale c (at_id ids v)
over_ids ids (Shift c v) = Shift c (at_id ids v)
over_ids ids (Turn r v) = Turn r (at_id ids v)

-- the nodes at these ids
abbrev pub nodes_at : List VNode → List NodeId → List VNode
nodes_at nodes ids = map (λ d. slice_index_or nodes d.0 (Input 0)) ids

-- what is kept are the nodes that roots use, in order: each new node, and each new root, is an old one over the ids of
-- what is kept
pub record KeepsUsed (old : List VNode) (roots : List ℕ) (new : List VNode) (new_roots : List ℕ) : Type 0 where
  pub kept : List NodeId
  pub rising : IsRising (numbers kept)
  pub used : (i : ℕ) → Contains (numbers kept) i ↔ IsUsed vector_operands old roots i
  pub nodes_are : map (over_ids kept) new ≡ nodes_at old kept
  pub roots_are : renamed kept new_roots ≡ roots

-- marks stand only at used nodes and at all roots; from i on a marked node's operands are marked
pub record Marks (nodes : List VNode) (roots : List ℕ) (i : ℕ) (marks : List Bool) : Type 0 where
  pub count : length marks ≡ length nodes
  pub sound : (j : ℕ) → slice_get marks j ≡ Some true → IsUsed vector_operands nodes roots j
  pub at_roots : (r : ℕ) → Contains roots r → slice_get marks r ≡ Some true
  pub closed : (j o : ℕ) (n : VNode) → i ≤ j → slice_get nodes j ≡ Some n → slice_get marks j ≡ Some true → Contains (vector_operands n) o
      → slice_get marks o ≡ Some true

-- of the first i nodes those that are marked are copied, and ids say where each is
pub record Copies (old : List VNode) (marks : List Bool) (i : ℕ) (new : List VNode) (ids : List NodeId) : Type 0 where
  pub kept : List NodeId
  pub count : length ids ≡ i
  pub rising : IsRising (numbers kept)
  pub marked : (j : ℕ) → Contains (numbers kept) j → (j < i) × (slice_get marks j ≡ Some true)
  pub placed : (j : ℕ) → j < i → slice_get marks j ≡ Some true
      → (slice_index_or (numbers ids) j 0 < length kept) × (slice_index_or (numbers kept) (slice_index_or (numbers ids) j 0) 0 ≡ j)
  pub nodes_are : map (over_ids kept) new ≡ nodes_at old kept
  pub earlier : all_earlier vector_operands 0 new ≡ true
  pub few : length new ≤ i
  pub gates : gates_of_nodes new ≤ gates_of_nodes (take i old)
  pub fit : (slots modulus : ℕ) (es : List SNode) → AllFit slots modulus es (take i old) → AllFit slots modulus es new
