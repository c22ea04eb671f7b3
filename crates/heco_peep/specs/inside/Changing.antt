-- The circuit as a pass has changed it so far, with what is known of its wires.
use Rattle.std.specs.Prelude.{◌≡◌, ℕ, List, Option}
use Rattle.heco_nums.specs.declared.shape.Shape.{Shape}
use Rattle.heco_nums.specs.Runs.{along}
use Rattle.heco_circuit.specs.declared.gate.Gate.{Gate}
use Rattle.heco_circuit.specs.Bounds.{with_bound, fresh_bounds}
use Rattle.heco_circuit.specs.Plans.{input_parts}
use Rattle.heco_circuit.specs.Validity.{with_gate}
use Rattle.heco_peep.specs.declared.changing.Changed.{Changed}
use Rattle.heco_peep.specs.declared.window.Swap.{Swap}
use Rattle.heco_peep.specs.Looks.{Progress, grown, taken}

-- the looks so far, which left a pass in this state
abbrev pub progress : Changed → List ℕ → Progress
progress c state = record { gates = c.gates; names = c.names; state = state }

-- the parts and the bounds of the wires of these inputs and of the gates
pub record IsChanged (id : ℕ) (weights : List ℕ) (inputs : List Shape) (c : Changed) : Type 0 where
  pub parts : c.parts ≡ along with_gate (input_parts inputs) c.gates
  pub bounds : c.bounds ≡ along (with_bound id weights) (fresh_bounds id inputs) c.gates

-- one gate more, whose old wire is now that of this name
abbrev pub HasGrown : Changed → Changed → Gate → ℕ → Type 0
HasGrown old new g name = (before after : List ℕ) → progress new after ≡ grown (progress old before) g name after

-- the gate, or what was answered in its place where that fits
abbrev pub HasTaken : ℕ → List ℕ → ℕ → Changed → Changed → Gate → Option Swap → Type 0
HasTaken id weights own old new at answer = (before after : List ℕ)
    → progress new after ≡ taken id weights own old.parts old.bounds at (progress old before) (answer, after)
