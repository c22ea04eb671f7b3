-- Wires of N numbers below t.
use Rattle.std.specs.Prelude.{◌≡◌, ◌<◌, ℕ, true, List, length, All}
use Rattle.std.specs.List.{list_all}
use Rattle.heco_nums.specs.Presets.{modulus_of, slots_of}
use Rattle.heco_nums.specs.Runs.{along, all_along}
use Rattle.heco_circuit.specs.declared.gate.Gate.{Gate}
use Rattle.heco_circuit.specs.Validity.{is_gate, with_gate}
use Rattle.heco_circuit.specs.Plans.{is_vector}
use Rattle.heco_meaning.specs.Meanings.{wire_at}
use Rattle.heco_rewrites.specs.Wires.{Wires, behind, Even}

-- N numbers below t
pub record IsFull (id : ℕ) (xs : List ℕ) : Type 0 where
  pub long : length xs ≡ slots_of id
  pub below : All (λ x. x < modulus_of id) xs

-- each of these wires is
abbrev pub AreFull : ℕ → Wires → Type 0
AreFull id w = (a : ℕ) → a < length w.parts → IsFull id (wire_at w.slots a)

abbrev pub WiresAreFull : Type 0
WiresAreFull =
    (id : ℕ) (vectors : List (List ℕ)) (start : Wires) (gates : List Gate) → 0 < modulus_of id
    → list_all (is_vector (modulus_of id) (slots_of id)) vectors ≡ true
    → all_along (is_gate (modulus_of id) (slots_of id) (length vectors)) with_gate start.parts gates ≡ true → Even start → AreFull id start
    → AreFull id (along (behind id vectors) start gates)
