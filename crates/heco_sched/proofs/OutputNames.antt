-- The wires of outputs, told by any test for a slot of a wire.
use Rattle.std.proofs.Common.{◌≡◌, ℕ, zero, suc, ◌+◌, List, [], ◌∷◌, refl, ◌∙◌, ap, Bool, false, ◌||◌, eqb}
use Rattle.std.specs.List.{flat_map, list_any, range_with_len}
use Rattle.heco_circuit.specs.declared.gate.Cell.{Cell}
use Rattle.heco_circuit.specs.declared.gate.Cell.TheVariants.{Number, Slot}
use Rattle.heco_circuit.specs.declared.gate.Output.{Output}
use Rattle.heco_schedules.specs.Rising.{names}
use Rattle.heco_schedules.specs.Tables.{numbers}
use Rattle.heco_schedules.proofs.Rising.{names-append}
use Rattle.heco_sched.specs.Wirings.{cell_wires, output_wires}

-- a test that holds of the slots of the wire
pub record TestsSlots (is_slot : ℕ → Cell → Bool) : Type 0 where
  pub number : (wire n : ℕ) → is_slot wire (Number n) ≡ false
  pub slot : (wire w slot : ℕ) → is_slot wire (Slot w slot) ≡ eqb w wire

cells_named : (is_slot : ℕ → Cell → Bool) → TestsSlots is_slot → (cells : List Cell) (wire : ℕ) → names (flat_map cell_wires cells) wire ≡ list_any (is_slot wire) cells
cells_named is_slot t [] wire = refl
cells_named is_slot t (Number n ∷ cells) wire = rw (t.number wire n) (cells_named is_slot t cells wire)
cells_named is_slot t (Slot w s ∷ cells) wire = rw (t.slot wire w s) (ap (λ b. eqb w wire || b) (cells_named is_slot t cells wire))

pub outputs_named : (is_slot : ℕ → Cell → Bool) → TestsSlots is_slot → (outputs : List Output) (wire : ℕ)
    → names (output_wires outputs) wire ≡ list_any (λ (o : Output). list_any (is_slot wire) o.cells) outputs
outputs_named is_slot t [] wire = refl
outputs_named is_slot t (o ∷ outputs) wire =
    names-append (flat_map cell_wires o.cells) (output_wires outputs) wire
    ∙ (ap (λ b. b || names (output_wires outputs) wire) (cells_named is_slot t o.cells wire) ∙ ap (λ b. list_any (is_slot wire) o.cells || b) (outputs_named is_slot t outputs wire))

pub numbers_range : (first n : ℕ) → numbers first n ≡ range_with_len first n
numbers_range first zero = refl
numbers_range first (suc n) = ap (λ l. first ∷ l) (numbers_range (first + 1) n)
