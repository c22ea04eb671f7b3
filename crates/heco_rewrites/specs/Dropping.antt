-- What is kept where the gates that no output needs go.
use Rattle.std.specs.Prelude.{◌≡◌, ◌<◌, ◌+◌, ℕ, Bool, true, List, [], length, slice_index}
use Rattle.std.specs.List.{range_with_len}
use Rattle.heco_nums.specs.Presets.{modulus_of, slots_of}
use Rattle.heco_nums.specs.Runs.{along, all_along}
use Rattle.heco_circuit.specs.declared.gate.Gate.{Gate}
use Rattle.heco_circuit.specs.Validity.{is_gate, with_gate}
use Rattle.heco_rewrites.specs.Wires.{Wires, behind, Even, StandsFor}
use Rattle.heco_rewrites.specs.Needed.{Kept, needed, kept}

-- the needed gates behind these wires, and the new number of each wire
abbrev pub needed_gates : (ℕ → Bool) → ℕ → List Gate → Kept
needed_gates outs count gates = along (kept (needed outs count gates) count) (record { gates = []; names = range_with_len 0 count }) gates

-- each needed wire is stood for by its new one, and the kept gates may stand
pub record IsDropped (id : ℕ) (vectors : List (List ℕ)) (start : Wires) (outs : ℕ → Bool) (gates : List Gate) (k : Kept) : Type 0 where
  pub each : (a : ℕ) → a < length start.parts + length gates → needed outs (length start.parts) gates a ≡ true
      → StandsFor (along (behind id vectors) start gates) (along (behind id vectors) start k.gates) a (slice_index k.names a)
  pub formed : all_along (is_gate (modulus_of id) (slots_of id) (length vectors)) with_gate start.parts k.gates ≡ true

abbrev pub DeadGatesMayGo : Type 0
DeadGatesMayGo =
    (id : ℕ) (vectors : List (List ℕ)) (start : Wires) (outs : ℕ → Bool) (gates : List Gate) → Even start
    → all_along (is_gate (modulus_of id) (slots_of id) (length vectors)) with_gate start.parts gates ≡ true
    → IsDropped id vectors start outs gates (needed_gates outs (length start.parts) gates)
