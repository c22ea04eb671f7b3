-- What the noise of a circuit is told to be.
use Rattle.std.specs.Prelude.{◌≡◌, ℕ, List, Some, None}
use Rattle.heco_circuit.specs.declared.gate.Gate.{Gate}
use Rattle.heco_circuit.specs.declared.quiet.Noise.{Noise}
use Rattle.heco_circuit.specs.declared.quiet.Noise.TheVariants.{Quiet, Passing}
use Rattle.heco_circuit.specs.Bounds.{fresh_bounds, wire_bounds, first_passing}

-- no bound passes and these are the bounds of all wires, or this gate's is the first that passes
abbrev pub IsNoise : {A : Type 0} → ℕ → List ℕ → List A → List Gate → Noise → Type 0
IsNoise id weights inputs gates (Quiet bounds) = (bounds ≡ wire_bounds id weights inputs gates)
    × (first_passing id weights 0 (fresh_bounds id inputs) gates ≡ None)
IsNoise id weights inputs gates (Passing gate bound) = first_passing id weights 0 (fresh_bounds id inputs) gates ≡ Some (gate, bound)
