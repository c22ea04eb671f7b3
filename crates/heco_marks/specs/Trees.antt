-- A complete binary tree of counts: node i has the nodes 2i and 2i + 1 below it, and the leaf of a number comes so many places after it.
use Rattle.std.specs.Prelude.{◌≡◌, ◌≢◌, ℕ, ◌+◌, ◌*◌, ◌^◌, ◌<◌, ◌≤◌, ◌==◌, List, length, filter, Bool, slice_index, if◌then◌else◌}
use Rattle.heco_schedules.specs.Tables.{below}

abbrev pub is_marked : ℕ → List ℕ → ℕ → Bool
is_marked leaves counts number = slice_index counts (leaves + number) == 1

-- the numbers whose leaf holds 1
unfoldable pub marked : ℕ → List ℕ → List ℕ
marked leaves counts = filter (is_marked leaves counts) (below leaves)

-- a leaf holds 0 or 1, each node of those that are summed the sum of the two below it, and no node more than its share of the leaves
pub record AreSums (leaves : ℕ) (summed : ℕ → Type 0) (counts : List ℕ) : Type 0 where
  pub power : (h : ℕ) × (leaves ≡ 2 ^ h)
  pub few : leaves ≤ 2 ^ 28
  pub count : length counts ≡ 2 * leaves
  pub leaf : (number : ℕ) → number < leaves → slice_index counts (leaves + number) ≤ 1
  pub sums : (i : ℕ) → 1 ≤ i → i < leaves → summed i → slice_index counts i ≡ slice_index counts (2 * i) + slice_index counts (2 * i + 1)
  pub small : (i : ℕ) → i * slice_index counts i ≤ 2 * leaves

-- each node but this one is summed
abbrev pub IsTreeBut : ℕ → List ℕ → ℕ → Type 0
IsTreeBut leaves counts node = (node < leaves) × AreSums leaves (λ i. i ≢ node) counts

abbrev pub IsTree : ℕ → List ℕ → Type 0
IsTree leaves counts = IsTreeBut leaves counts 0

abbrev pub SameLeaves : ℕ → List ℕ → List ℕ → Type 0
SameLeaves leaves counts counts' = (number : ℕ) → slice_index counts' (leaves + number) ≡ slice_index counts (leaves + number)

-- the leaves of the numbers that pass hold 1, and all other nodes 0
pub record AreLeaves (leaves : ℕ) (flag : ℕ → Bool) (counts : List ℕ) : Type 0 where
  pub count : length counts ≡ 2 * leaves
  pub inner : (i : ℕ) → i < leaves → slice_index counts i ≡ 0
  pub leaf : (number : ℕ) → slice_index counts (leaves + number) ≡ (if flag number then 1 else 0)
