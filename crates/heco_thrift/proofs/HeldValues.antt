-- Outputs that hold homes are what the homes hold.
use Rattle.std.proofs.Common.{◌≡◌, ◌∙◌, ℕ, ◌-◌, ◌%◌, ◌<◌, ◌≤◌, Bool, true, ◌&&◌, List, [], ◌∷◌, ◌++◌, length, map, refl, sym, ap, ap₂, arith, nat_le, mod-eq_of_lt}
use Rattle.std.specs.List.{AllZip, flat_map, list_all}
use Rattle.std.proofs.lemmas.Bool.{and_parts, and_from, leb-true}
use Rattle.heco_nums.specs.Presets.{modulus_of, slots_of}
use Rattle.heco_nums.specs.declared.shape.Shape.{Shape}
use Rattle.heco_nums.specs.Runs.{all_along}
use Rattle.heco_nums.proofs.PresetCases.{modulus_pos}
use Rattle.heco_circuit.specs.Circuits.{IsCircuit}
use Rattle.heco_circuit.specs.Plans.{Plan, push, is_cell, is_output, is_name, wire_parts, are_inputs, are_vectors, are_gates, are_outputs}
use Rattle.heco_circuit.specs.Validity.{is_between}
use Rattle.heco_circuit.specs.declared.gate.Cell.{Cell}
use Rattle.heco_circuit.specs.declared.gate.Cell.TheVariants.{Number, Slot}
use Rattle.heco_circuit.specs.declared.gate.Output.{Output}
use Rattle.heco_meaning.specs.Meanings.{cell_value, wires_of}
use Rattle.heco_texts.specs.Answers.{HaveFit}
use Rattle.heco_written.specs.WrittenForm.{WrittenHome, Known, At, home_value}
use Rattle.heco_thrift.specs.Homes.{world_of, HoldsHome, all_cells, HoldsHomes}

-- ---- what a valid circuit's elements are

list_all_append : {A : Type 0} (test : A → Bool) (xs ys : List A) → list_all test xs ≡ true → list_all test ys ≡ true → list_all test (xs ++ ys) ≡ true
list_all_append test [] ys h k = k
list_all_append test (x ∷ xs) ys h k = let both = and_parts (test x) (list_all test xs) h in and_from (test x) (list_all test (xs ++ ys)) both.0 (list_all_append test xs ys both.1 k)

valid_cells : (t slots : ℕ) (inputs : List Shape) (parts : List ℕ) (before outputs : List Output) → all_along (is_output t slots inputs parts) push before outputs ≡ true → list_all (is_cell t slots parts) (flat_map (λ o. o.cells) outputs) ≡ true
valid_cells t slots inputs parts before [] h = refl
valid_cells t slots inputs parts before (o ∷ outputs) h =
    let both = and_parts (is_output t slots inputs parts before o) (all_along (is_output t slots inputs parts) push (push before o) outputs) h in
    let named = and_parts (is_name inputs before o.name) (is_between 1 4096 (length o.cells) && list_all (is_cell t slots parts) o.cells) both.0 in
    let cells = and_parts (is_between 1 4096 (length o.cells)) (list_all (is_cell t slots parts) o.cells) named.1 in
    list_all_append (is_cell t slots parts) o.cells (flat_map (λ o. o.cells) outputs) cells.1 (valid_cells t slots inputs parts (push before o) outputs both.1)

circuit_cells : (c : Plan) → IsCircuit c → list_all (is_cell (modulus_of c.preset) (slots_of c.preset) (wire_parts c)) (all_cells c) ≡ true
circuit_cells c valid =
    let behind = and_parts (is_between 1 5 c.preset) (are_inputs c && (are_vectors c && (are_gates c && are_outputs c))) valid.0 in
    let last = and_parts (are_vectors c) (are_gates c && are_outputs c) (and_parts (are_inputs c) (are_vectors c && (are_gates c && are_outputs c)) behind.1).1 in
    let outputs = and_parts (are_gates c) (are_outputs c) last.1 in
    let each = and_parts (nat_le (length c.outputs) (256 - length c.inputs)) (all_along (is_output (modulus_of c.preset) (slots_of c.preset) c.inputs (wire_parts c)) push [] c.outputs) outputs.1 in
    valid_cells (modulus_of c.preset) (slots_of c.preset) c.inputs (wire_parts c) [] c.outputs each.1

-- ---- elements and homes

within : (t n : ℕ) → 0 < t → n ≤ t - 1 → n ≡ n % t
within t n p h = sym (mod-eq_of_lt (omega arith))

cell_is : (c : Plan) (rows : List (List ℕ)) (cell : Cell) (home : WrittenHome) → is_cell (modulus_of c.preset) (slots_of c.preset) (wire_parts c) cell ≡ true → HaveFit (modulus_of c.preset) c.inputs rows → HoldsHome c cell home
    → cell_value (wires_of c rows) cell ≡ home_value (world_of c.preset rows) home
cell_is c rows (Number n) (Known d) valid fit e =
    let both = and_parts (nat_le 0 n) (nat_le n (modulus_of c.preset - 1)) valid in
    within (modulus_of c.preset) n (modulus_pos c.preset) (leb-true n (modulus_of c.preset - 1) both.1) ∙ ap (λ x. x % modulus_of c.preset) e
cell_is c rows (Slot wire slot) (At p) valid fit h = h.means rows fit
cell_is c rows (Number n) (At p) valid fit h = absurd h
cell_is c rows (Slot wire slot) (Known d) valid fit h = absurd h

cells_are : (c : Plan) (rows : List (List ℕ)) (cells : List Cell) (homes : List WrittenHome) → list_all (is_cell (modulus_of c.preset) (slots_of c.preset) (wire_parts c)) cells ≡ true → HaveFit (modulus_of c.preset) c.inputs rows
    → AllZip (HoldsHome c) cells homes → map (cell_value (wires_of c rows)) cells ≡ map (home_value (world_of c.preset rows)) homes
cells_are c rows [] [] valid fit h = refl
cells_are c rows [] (home ∷ homes) valid fit h = absurd h
cells_are c rows (cell ∷ cells) [] valid fit h = absurd h
cells_are c rows (cell ∷ cells) (home ∷ homes) valid fit h =
    let both = and_parts (is_cell (modulus_of c.preset) (slots_of c.preset) (wire_parts c) cell) (list_all (is_cell (modulus_of c.preset) (slots_of c.preset) (wire_parts c)) cells) valid in
    ap₂ (λ x (xs : List ℕ). x ∷ xs) (cell_is c rows cell home both.0 fit h.0) (cells_are c rows cells homes both.1 fit h.1)

pub held_values : (c : Plan) (homes : List WrittenHome) (rows : List (List ℕ)) → IsCircuit c → HoldsHomes c homes → HaveFit (modulus_of c.preset) c.inputs rows → map (cell_value (wires_of c rows)) (all_cells c) ≡ map (home_value (world_of c.preset rows)) homes
held_values c homes rows valid hold fit = cells_are c rows (all_cells c) homes (circuit_cells c valid) fit hold
