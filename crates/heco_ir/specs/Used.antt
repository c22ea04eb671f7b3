-- Nodes that stand once, and nodes that are used.
use Rattle.std.specs.Prelude.{◌≡◌, ℕ, ◌<◌, List, Some, length, slice_get, Contains}

-- no node stands at two places
abbrev pub EachOnce : {N : Type 0} → List N → Type 0
EachOnce {N} ns = (i j : ℕ) (n : N) → slice_get ns i ≡ Some n → slice_get ns j ≡ Some n → i ≡ j

-- the nodes that roots use: the roots, and the operands of what they use
pub data IsUsed {N : Type 0} (operands : N → List ℕ) (nodes : List N) (roots : List ℕ) : ℕ → Type 0 where
  root : (i : ℕ) → Contains roots i → IsUsed operands nodes roots i
  operand : (i j : ℕ) (n : N) → IsUsed operands nodes roots j → slice_get nodes j ≡ Some n → Contains (operands n) i → IsUsed operands nodes roots i

-- each node is used
abbrev pub AllUsed : {N : Type 0} → (N → List ℕ) → List N → List ℕ → Type 0
AllUsed operands nodes roots = (i : ℕ) → i < length nodes → IsUsed operands nodes roots i
