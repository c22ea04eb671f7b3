-- The meaning of nodes over any dialect.
use Rattle.std.specs.Prelude.{◌≡◌, ◌≤◌, length, ℕ, ◌+◌, Bool, true, ◌&&◌, nat_lt, List, [], ◌∷◌, map, slice_index_or}
use Rattle.heco_written.specs.World.{World}
use Rattle.heco_ir.specs.Arena.{built}
use Rattle.heco_ir.specs.declared.dialect.NodeId.{NodeId}

-- the values at these ids
abbrev pub at_ids : List (List ℕ) → List ℕ → List (List ℕ)
at_ids done ids = map (λ i. slice_index_or done i []) ids

module _ {N : Type 0} (operands : N → List ℕ) (value : World → N → List (List ℕ) → List ℕ) (w : World) where
  -- the value of a node over the values of the nodes before it
  abbrev pub value_over : List (List ℕ) → N → List ℕ
  value_over done n = value w n (at_ids done (operands n))

  -- the values of nodes, by id, each from those before it
  abbrev pub values : List N → List (List ℕ)
  values ns = built value_over ns

-- each id is below i
abbrev pub all_below : ℕ → List ℕ → Bool
all_below i [] = true
all_below i (x ∷ xs) = nat_lt x i && all_below i xs

-- from place i on, each node's operands are earlier
abbrev pub all_earlier : {N : Type 0} → (N → List ℕ) → ℕ → List N → Bool
all_earlier ops i [] = true
all_earlier ops i (n ∷ ns) = all_below i (ops n) && all_earlier ops (i + 1) ns

-- the numbers of ids
abbrev pub numbers : List NodeId → List ℕ
numbers ids = map (λ d. d.0) ids

-- ids renamed
abbrev pub renamed : List NodeId → List ℕ → List ℕ
renamed ids os = map (λ o. slice_index_or (numbers ids) o 0) os

-- what the roots mean
abbrev pub root_values : {N : Type 0} → (N → List ℕ) → (World → N → List (List ℕ) → List ℕ) → World → List N → List NodeId → List (List ℕ)
root_values ops val w nodes roots = at_ids (values ops val w nodes) (numbers roots)

-- out has the nodes ns changed, where ids say, with the meaning that they had
pub record Rewrites {N : Type 0} (ops : N → List ℕ) (val : World → N → List (List ℕ) → List ℕ) (ns out : List N) (ids : List NodeId) : Type 0 where
  pub inside : all_below (length out) (numbers ids) ≡ true
  pub few : length out ≤ length ns
  pub count : length ids ≡ length ns
  pub means : (w : World) → at_ids (values ops val w out) (numbers ids) ≡ values ops val w ns
