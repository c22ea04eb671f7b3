-- The amounts of the turns that a preset has keys for.
use Rattle.std.specs.Prelude.{ℕ, ◌<◌, ◌≤◌, List, All}

-- each from 1 to N - 1
abbrev pub AreAmounts : ℕ → List ℕ → Type 0
AreAmounts slots turns = All (λ r. (1 ≤ r) × (r < slots)) turns
