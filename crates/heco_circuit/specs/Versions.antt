-- The version of a circuit file, by its plain vectors and its gates.
use Rattle.std.specs.Prelude.{ℕ, Bool, true, false, List, [], ◌∷◌, if◌then◌else◌}
use Rattle.std.specs.List.{list_any}
use Rattle.heco_circuit.specs.declared.gate.Gate.{Gate}
use Rattle.heco_circuit.specs.declared.gate.Gate.TheVariants.{Sub}

abbrev pub is_sub : Gate → Bool
is_sub (Sub a b) = true
is_sub g = false

-- 3 exactly where there is a vector; without one 2 exactly where a difference occurs
abbrev pub version_of : List (List ℕ) → List Gate → ℕ
version_of [] gates = if list_any is_sub gates then 2 else 1
version_of (v ∷ vectors) gates = 3

-- the versions are 1 to this
abbrev pub newest : ℕ
newest = 3
