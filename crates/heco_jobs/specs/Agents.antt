-- The agents that a command is handed, whose choices are free: the picker of events, and the passes over circuits. Their rules
-- stay, and their states move.
use Rattle.std.specs.Prelude.{◌≡◌, ℕ, List}
use Rattle.heco_peep.specs.Rules.{Handed}
use Rattle.heco_jobs.specs.declared.product.Product.{Product}

-- a picker as it stands: its rule answers a state and a number of choices with a choice and the next state
pub record Picking : Type 0 where
  pub rule : List ℕ → ℕ → ℕ × List ℕ
  pub state : List ℕ

abbrev pub picking : (List ℕ → ℕ → ℕ × List ℕ) → List ℕ → Picking
picking rule state = record { rule = rule; state = state }

pub record Agents : Type 0 where
  pub picker : Picking
  pub passes : List Handed

abbrev pub agents : Picking → List Handed → Agents
agents picker passes = record { picker = picker; passes = passes }

-- the product is allowed, and the agents are left as they were
abbrev pub asking_none : Agents → (Product → Type 0) → Product → Agents → Type 0
asking_none agents Allowed p left = Allowed p × (left ≡ agents)
