-- The gates that outputs need, and those gates alone under other numbers.
use Rattle.std.specs.Prelude.{ℕ, ◌+◌, Bool, true, false, ◌&&◌, ◌||◌, ◌==◌, List, [], ◌∷◌, ◌++◌, length, slice_index}
use Rattle.heco_circuit.specs.declared.gate.Gate.{Gate}
use Rattle.heco_rewrites.specs.Wires.{operands, over}

abbrev pub has : List ℕ → ℕ → Bool
has [] a = false
has (x ∷ xs) a = x == a || has xs a

abbrev pub reads : Gate → ℕ → Bool
reads g a = has (operands g) a

-- a wire is needed through these gates, the first of which makes this wire: by an output, or by a gate that reads it and whose
-- own wire is needed through the later ones
abbrev pub needed : (ℕ → Bool) → ℕ → List Gate → ℕ → Bool
needed outs wire [] a = outs a
needed outs wire (g ∷ gates) a = needed outs (wire + 1) gates a || (reads g a && needed outs (wire + 1) gates wire)

-- the gates that are kept, and the wire that each old wire is now
pub record Kept : Type 0 where
  pub gates : List Gate
  pub names : List ℕ

abbrev pub kept_where : ℕ → Kept → Gate → Bool → Kept
kept_where count s g true = record { gates = s.gates ++ over (slice_index s.names) g ∷ []; names = s.names ++ (count + length s.gates) ∷ [] }
kept_where count s g false = record { gates = s.gates; names = s.names ++ 0 ∷ [] }

-- one gate more behind so many inputs, where it is to be kept
abbrev pub kept : (ℕ → Bool) → ℕ → Kept → Gate → Kept
kept need count s g = kept_where count s g (need (length s.names))
