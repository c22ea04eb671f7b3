-- Messages as lists, and the gates that can be applied to those of the wires so far.
use Rattle.std.specs.Prelude.{◌≡◌, ◌<◌, ◌≤◌, ℕ, List, length, All}
use Rattle.heco_nums.specs.declared.preset.Preset.{Preset}
use Rattle.heco_circuit.specs.declared.gate.Gate.{Gate}
use Rattle.heco_circuit.specs.declared.gate.Gate.TheVariants.{Neg, Add, Sub, Mul, Relin, Scale, Shift, Turn, Weigh}

-- n numbers below t
pub record IsPlaintext (p : Preset) (m : List ℕ) : Type 0 where
  pub long : length m ≡ p.n
  pub below : All (λ x. x < p.t) m

-- its operands are among so many wires, and its vector, constant or amount is in range
abbrev pub IsGateBehind : Preset → ℕ → ℕ → Gate → Type 0
IsGateBehind p vectors wires (Neg a) = a < wires
IsGateBehind p vectors wires (Add a b) = (a < wires) × (b < wires)
IsGateBehind p vectors wires (Sub a b) = (a < wires) × (b < wires)
IsGateBehind p vectors wires (Mul a b) = (a < wires) × (b < wires)
IsGateBehind p vectors wires (Relin a) = a < wires
IsGateBehind p vectors wires (Scale c a) = (c < p.t) × (a < wires)
IsGateBehind p vectors wires (Shift c a) = (c < p.t) × (a < wires)
IsGateBehind p vectors wires (Turn r a) = (r ≤ p.slots) × (a < wires)
IsGateBehind p vectors wires (Weigh v a) = (v < vectors) × (a < wires)
