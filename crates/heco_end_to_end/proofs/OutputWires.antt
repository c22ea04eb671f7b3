-- The wires of outputs: they have two parts, and outputs depend on their slots alone.
use Rattle.std.proofs.Common.{◌≡◌, ◌∙◌, ℕ, zero, suc, ◌+◌, ◌-◌, Bool, true, false, ◌&&◌, ◌==◌, cond, nat_le, List, [], ◌∷◌, length, map, get_or, refl, ap, ap₂, subst, inl, inr, arith}
use Rattle.std.specs.List.{filter, list_all, list_any, count_by, range_with_len}
use Rattle.std.proofs.lemmas.Bool.{and_parts, eqb-true, eq-eqb, or_cases, or_left, or_right}
use Rattle.std.proofs.lemmas.List.{length_push}
use Rattle.std.proofs.lemmas.List.Sums.{sum_by-cons}
use lib.IntN.{ℤ}
use Rattle.heco_nums.specs.Presets.{modulus_of, slots_of}
use Rattle.heco_nums.specs.declared.preset.Preset.{Preset}
use Rattle.heco_nums.specs.declared.shape.Shape.{Shape}
use Rattle.heco_nums.specs.Runs.{along, all_along}
use Rattle.heco_circuit.specs.Circuits.{IsCircuit}
use Rattle.heco_circuit.specs.Plans.{Plan as Circuit, push, input_parts, is_cell, is_name, is_output, wire_parts, are_inputs, are_vectors, are_gates, are_outputs}
use Rattle.heco_circuit.specs.Validity.{has_parts, is_between, parts_of, with_gate}
use Rattle.heco_circuit.specs.declared.gate.Cell.{Cell}
use Rattle.heco_circuit.specs.declared.gate.Cell.TheVariants.{Number, Slot}
use Rattle.heco_circuit.specs.declared.gate.Gate.{Gate}
use Rattle.heco_circuit.specs.declared.gate.Output.{Output}
use Rattle.heco_meaning.specs.Meanings.{wire_at, cell_value, output_values}
use Rattle.heco_products.specs.Decrypting.{decrypted_slots, decrypted_wires}
use Rattle.heco_run_laws.specs.Results.{is_slot_of, is_output_wire, wire_count}
use Rattle.heco_run_laws.specs.Runs.{Ciphertext}

-- ---- how many wires there are

length-parts : (ps : List ℕ) (gates : List Gate) → length (along with_gate ps gates) ≡ length ps + length gates
length-parts ps [] = omega arith
length-parts ps (g ∷ gates) = let rest = length-parts (with_gate ps g) gates in omega (arith, rest, length_push ps (parts_of ps g))

length-inputs : {A : Type 0} (inputs : List A) → length (input_parts inputs) ≡ length inputs
length-inputs [] = refl
length-inputs (x ∷ inputs) = ap (λ n. suc n) (length-inputs inputs)

pub length-wires : (c : Circuit) → length (wire_parts c) ≡ wire_count c
length-wires c = length-parts (input_parts c.inputs) c.gates ∙ ap (λ n. n + length c.gates) (length-inputs c.inputs)

-- ---- a wire of an output has two parts

cell_parts : (t slots : ℕ) (parts : List ℕ) (w : ℕ) (cells : List Cell) → list_all (is_cell t slots parts) cells ≡ true → list_any (is_slot_of w) cells ≡ true → has_parts 2 parts w ≡ true
cell_parts t slots parts w [] valid h = absurd (let no : ⊥ = cc in no)
cell_parts t slots parts w (Number n ∷ cells) valid h =
    cell_parts t slots parts w cells (and_parts (is_cell t slots parts (Number n)) (list_all (is_cell t slots parts) cells) valid).1 h
cell_parts t slots parts w (Slot wire slot ∷ cells) valid h =
    let both = and_parts (is_cell t slots parts (Slot wire slot)) (list_all (is_cell t slots parts) cells) valid in
    elim (or_cases (wire == w) (list_any (is_slot_of w) cells) h) [
      | inl same ↦ subst (λ x. has_parts 2 parts x ≡ true) (eqb-true wire w same) (and_parts (has_parts 2 parts wire) (is_between 0 (slots - 1) slot) both.0).0
      | inr later ↦ cell_parts t slots parts w cells both.1 later
    ]

output_parts : (t slots : ℕ) (inputs : List Shape) (parts : List ℕ) (w : ℕ) (before outputs : List Output) → all_along (is_output t slots inputs parts) push before outputs ≡ true → is_output_wire outputs w ≡ true → has_parts 2 parts w ≡ true
output_parts t slots inputs parts w before [] valid h = absurd (let no : ⊥ = cc in no)
output_parts t slots inputs parts w before (o ∷ outputs) valid h =
    let both = and_parts (is_output t slots inputs parts before o) (all_along (is_output t slots inputs parts) push (push before o) outputs) valid in
    let named = and_parts (is_name inputs before o.name) (is_between 1 4096 (length o.cells) && list_all (is_cell t slots parts) o.cells) both.0 in
    let cells = and_parts (is_between 1 4096 (length o.cells)) (list_all (is_cell t slots parts) o.cells) named.1 in
    elim (or_cases (list_any (is_slot_of w) o.cells) (is_output_wire outputs w) h) [
      | inl here ↦ cell_parts t slots parts w o.cells cells.1 here
      | inr later ↦ output_parts t slots inputs parts w (push before o) outputs both.1 later
    ]

pub output_wire_parts : (c : Circuit) (w : ℕ) → IsCircuit c → is_output_wire c.outputs w ≡ true → has_parts 2 (wire_parts c) w ≡ true
output_wire_parts c w valid h =
    let behind = and_parts (is_between 1 5 c.preset) (are_inputs c && (are_vectors c && (are_gates c && are_outputs c))) valid.0 in
    let last = and_parts (are_vectors c) (are_gates c && are_outputs c) (and_parts (are_inputs c) (are_vectors c && (are_gates c && are_outputs c)) behind.1).1 in
    let outputs = and_parts (are_gates c) (are_outputs c) last.1 in
    let each = and_parts (nat_le (length c.outputs) (256 - length c.inputs)) (all_along (is_output (modulus_of c.preset) (slots_of c.preset) c.inputs (wire_parts c)) push [] c.outputs) outputs.1 in
    output_parts (modulus_of c.preset) (slots_of c.preset) c.inputs (wire_parts c) w [] c.outputs each.1 h

-- ---- outputs depend on the slots of their wires alone

same_cells : (vs us : List (List ℕ)) (cells : List Cell) → ((w : ℕ) → list_any (is_slot_of w) cells ≡ true → wire_at vs w ≡ wire_at us w) → map (cell_value vs) cells ≡ map (cell_value us) cells
same_cells vs us [] same = refl
same_cells vs us (Number n ∷ cells) same = ap (λ (xs : List ℕ). n ∷ xs) (same_cells vs us cells same)
same_cells vs us (Slot wire slot ∷ cells) same =
    ap₂ (λ x (xs : List ℕ). x ∷ xs) (ap (λ (v : List ℕ). get_or v slot 0) (same wire (or_left (wire == wire) (list_any (is_slot_of wire) cells) (eq-eqb wire wire refl))))
    (same_cells vs us cells (λ w h. same w (or_right (wire == w) (list_any (is_slot_of w) cells) h)))

pub same_outputs : (vs us : List (List ℕ)) (outputs : List Output) → ((w : ℕ) → is_output_wire outputs w ≡ true → wire_at vs w ≡ wire_at us w) → map (output_values vs) outputs ≡ map (output_values us) outputs
same_outputs vs us [] same = refl
same_outputs vs us (o ∷ outputs) same =
    ap₂ (λ x (xs : List (List ℕ)). x ∷ xs) (same_cells vs us o.cells (λ w h. same w (or_left (list_any (is_slot_of w) o.cells) (is_output_wire outputs w) h)))
    (same_outputs vs us outputs (λ w h. same w (or_right (list_any (is_slot_of w) o.cells) (is_output_wire outputs w) h)))

-- ---- a result's ciphertexts are those of the marked wires in order

-- what a mark counts
abbrev one : Bool → ℕ
one b = cond b 1 0

module _ (p : Preset) (e : ℕ) (s : List ℤ) (test : ℕ → Bool) (f : ℕ → Ciphertext) where
  pub decrypted_each : (i n : ℕ) → decrypted_wires p e s (map test (range_with_len i n)) (map f (filter test (range_with_len i n))) ≡ map (λ w. cond (test w) (decrypted_slots p e s (f w)) []) (range_with_len i n)
  decrypted_each i zero = refl
  decrypted_each i (suc n) =
      elim (test i) as (λ b. decrypted_wires p e s (b ∷ map test (range_with_len (i + 1) n)) (map f (cond b (i ∷ filter test (range_with_len (i + 1) n)) (filter test (range_with_len (i + 1) n))))
      ≡ cond b (decrypted_slots p e s (f i)) [] ∷ map (λ w. cond (test w) (decrypted_slots p e s (f w)) []) (range_with_len (i + 1) n)) [
        | true ↦ ap (λ (rows : List (List ℕ)). decrypted_slots p e s (f i) ∷ rows) (decrypted_each (i + 1) n)
        | false ↦ ap (λ (rows : List (List ℕ)). [] ∷ rows) (decrypted_each (i + 1) n)
      ]

module _ (test : ℕ → Bool) (f : ℕ → Ciphertext) where
  pub result_count : (i n : ℕ) → length (map f (filter test (range_with_len i n))) ≡ count_by (λ b. b) (map test (range_with_len i n))
  result_count i zero = refl
  result_count i (suc n) =
      elim (test i) as (λ b. length (map f (cond b (i ∷ filter test (range_with_len (i + 1) n)) (filter test (range_with_len (i + 1) n)))) ≡ count_by (λ b. b) (b ∷ map test (range_with_len (i + 1) n))) [
        | true ↦ (let rest = result_count (i + 1) n in omega (arith, rest, sum_by-cons one true (map test (range_with_len (i + 1) n))))
        | false ↦ (let rest = result_count (i + 1) n in omega (arith, rest, sum_by-cons one false (map test (range_with_len (i + 1) n))))
      ]
