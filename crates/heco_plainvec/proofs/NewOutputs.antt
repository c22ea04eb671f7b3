-- The outputs over the names of all wires, as a list has them.
use Rattle.std.proofs.Common.{◌≡◌, ℕ, suc, ◌+◌, ◌-◌, ◌<◌, List, [], ◌∷◌, length, length-append, map, refl, ap, ◌∙◌, arith, true, eqb}
use Rattle.std.specs.Prelude.{Some, slice_get, slice_index}
use Rattle.std.proofs.lemmas.Bool.{ltb-true}
use Rattle.heco_nums.specs.declared.shape.Shape.{Shape}
use Rattle.heco_nums.specs.Presets.{modulus_of, slots_of}
use Rattle.heco_nums.specs.Runs.{along}
use Rattle.heco_fields.proofs.Bools.{both_true}
use Rattle.heco_circuit.specs.declared.gate.Cell.{Cell}
use Rattle.heco_circuit.specs.declared.gate.Cell.TheVariants.{Number, Slot}
use Rattle.heco_circuit.specs.declared.gate.Gate.{Gate}
use Rattle.heco_circuit.specs.declared.gate.Output.{Output}
use Rattle.heco_circuit.specs.CircuitFormat.{plan_with}
use Rattle.heco_circuit.specs.Plans.{Plan, input_parts, wire_parts, is_cell}
use Rattle.heco_circuit.specs.Validity.{parts_of, with_gate, is_wire, has_parts, is_between}
use Rattle.heco_circuit.proofs.Lengths.{length-input_parts}
use Rattle.heco_rewrites.specs.Wires.{cell_over, output_over}
use Rattle.heco_rewrites.proofs.Outputs.{cells_stand}
use Rattle.heco_plainvec.specs.Gathering.{wires}
use Rattle.heco_plainvec.specs.Gathered.{name, gathered_gates, gathered_vectors, gathered}
use Rattle.heco_plainvec.proofs.Rows.{each_at}
use Rattle.heco_plainvec.proofs.Whole.{Valid}

length-parts : (c : Plan) → length (wire_parts c) ≡ length c.inputs + length c.gates
length-parts c = length-more (input_parts c.inputs) c.gates ∙ ap (λ n. n + length c.gates) (length-input_parts c.inputs)
  where
    length-more : (parts : List ℕ) (gates : List Gate) → length (along with_gate parts gates) ≡ length parts + length gates
    length-more parts [] = omega arith
    length-more parts (g ∷ gates) =
        let r = length-more (with_gate parts g) gates in
        let l = length-append parts (parts_of parts g ∷ []) in
        omega (arith, r, l)

abbrev SameSlots : (ℕ → ℕ) → (ℕ → ℕ) → List Cell → Type 0
SameSlots f h xs = (j wire slot : ℕ) → slice_get xs j ≡ Some (Slot wire slot) → f wire ≡ h wire

same_cells : (f h : ℕ → ℕ) (xs : List Cell) → SameSlots f h xs → map (cell_over f) xs ≡ map (cell_over h) xs
same_cells f h [] s = refl
same_cells f h (Number n ∷ xs) s = ap (λ ys. Number n ∷ ys) (same_cells f h xs (λ j w k e. s (suc j) w k e))
same_cells f h (Slot wire slot ∷ xs) s =
    ap (λ w. Slot w slot ∷ map (cell_over f) xs) (s 0 wire slot refl) ∙ ap (λ ys. Slot (h wire) slot ∷ ys) (same_cells f h xs (λ j w k e. s (suc j) w k e))

same_outputs : (f h : ℕ → ℕ) (os : List Output) → ((i : ℕ) (o : Output) → slice_get os i ≡ Some o → SameSlots f h o.cells) → map (output_over f) os ≡ map (output_over h) os
same_outputs f h [] s = refl
same_outputs f h (o ∷ os) s =
    ap (λ xs. record { name = o.name; cells = xs } ∷ map (output_over f) os) (same_cells f h o.cells (s 0 o refl))
    ∙ ap (λ ys. output_over h o ∷ ys) (same_outputs f h os (λ i p e. s (suc i) p e))

cell_within : (t slots : ℕ) (parts : List ℕ) (wire slot : ℕ) → is_cell t slots parts (Slot wire slot) ≡ true → wire < length parts
cell_within t slots parts wire slot h =
    let a = both_true (has_parts 2 parts wire) (is_between 0 (slots - 1) slot) h in
    ltb-true wire (length parts) (both_true (is_wire parts wire) (eqb (slice_index parts wire) 2) a.0).0

outputs_named : (c : Plan) (names : List ℕ) → Valid c → names ≡ map (name c) (wires c) → map (output_over (slice_index names)) c.outputs ≡ map (output_over (name c)) c.outputs
outputs_named c names v e = same_outputs (slice_index names) (name c) c.outputs (λ i o q j wire slot r.
    let x = cells_stand (modulus_of c.preset) (slots_of c.preset) c.inputs (wire_parts c) [] c.outputs i j o (Slot wire slot) v.outputs q r in
    let l = cell_within (modulus_of c.preset) (slots_of c.preset) (wire_parts c) wire slot x in
    let n = length-parts c in
    ap (λ ns. slice_index ns wire) e ∙ each_at (name c) c wire 0 (omega (arith, l, n)))

-- ---- the circuit of all that changes
pub record IsChanged (c : Plan) (id : ℕ) (inputs : List Shape) (vectors : List (List ℕ)) (gates : List Gate) (outputs : List Output) : Type 0 where
  pub id_is : id ≡ c.preset
  pub inputs_are : inputs ≡ c.inputs
  pub vectors_are : vectors ≡ gathered_vectors c
  pub gates_are : gates ≡ gathered_gates c
  pub outputs_are : outputs ≡ map (output_over (name c)) c.outputs

pub made_of : (c : Plan) (id : ℕ) (inputs : List Shape) (vectors : List (List ℕ)) (gates : List Gate) (outputs : List Output) → IsChanged c id inputs vectors gates outputs → plan_with id inputs vectors gates outputs ≡ gathered c
unfolding gathered
made_of c id inputs vectors gates outputs s =
    ap (λ x. plan_with x inputs vectors gates outputs) s.id_is ∙ ap (λ x. plan_with c.preset x vectors gates outputs) s.inputs_are ∙ ap (λ x. plan_with c.preset c.inputs x gates outputs) s.vectors_are
    ∙ ap (λ x. plan_with c.preset c.inputs (gathered_vectors c) x outputs) s.gates_are ∙ ap (plan_with c.preset c.inputs (gathered_vectors c) (gathered_gates c)) s.outputs_are

pub outputs_made : (c : Plan) (names : List ℕ) (old new : List Output) → Valid c → new ≡ map (output_over (slice_index names)) old → old ≡ c.outputs → names ≡ map (name c) (wires c) → new ≡ map (output_over (name c)) c.outputs
outputs_made c names old new v e o n = e ∙ ap (map (output_over (slice_index names))) o ∙ outputs_named c names v n
