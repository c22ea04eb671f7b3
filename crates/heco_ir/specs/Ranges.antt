-- Vector nodes that a valid circuit may have.
use Rattle.std.specs.Prelude.{ℕ, ◌+◌, ◌<◌, List, [], ◌∷◌, Contains}
use Rattle.heco_ir.specs.declared.scalar.SNode.{SNode}
use Rattle.heco_ir.specs.declared.scalar.SNode.TheVariants.{Elem}
use Rattle.heco_ir.specs.declared.vector.VNode.{VNode}
use Rattle.heco_ir.specs.declared.vector.VNode.TheVariants.{Input, Mul, Scale, Shift, Turn}

-- with this number of slots and modulus: constants and amounts are in range and not 0, inputs are those of elements
abbrev pub Fits : ℕ → ℕ → List SNode → VNode → Type 0
Fits slots modulus es (Input a) = (i : ℕ) × Contains es (Elem a i)
Fits slots modulus es (Scale c v) = (0 < c) × (c < modulus)
Fits slots modulus es (Shift c v) = (0 < c) × (c < modulus)
Fits slots modulus es (Turn r v) = (0 < r) × (r < slots)
Fits slots modulus es n = Unit {0}

abbrev pub AllFit : ℕ → ℕ → List SNode → List VNode → Type 0
AllFit slots modulus es [] = Unit {0}
AllFit slots modulus es (n ∷ ns) = Fits slots modulus es n × AllFit slots modulus es ns

-- the gates of nodes: none of an input, a multiplication and a relinearisation of a product, else one
abbrev pub node_gates : VNode → ℕ
node_gates (Input a) = 0
node_gates (Mul v u) = 2
node_gates n = 1

abbrev pub gates_of_nodes : List VNode → ℕ
gates_of_nodes [] = 0
gates_of_nodes (n ∷ ns) = node_gates n + gates_of_nodes ns
