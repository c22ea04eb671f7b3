-- What a valid circuit has: few wires, short inputs with names of their own, and short outputs.
use Rattle.std.proofs.Common.{◌≡◌, ◌≢◌, ◌≤◌, ◌<◌, ◌-◌, ◌^◌, ◌⊎◌, ℕ, zero, suc, Bool, true, false, List, [], ◌∷◌, ◌++◌, length, take, get_or, inl, inr, refl, sym, subst, arith, append_assoc, append-nil}
use Rattle.std.specs.Prelude.{All, not}
use Rattle.std.specs.List.{list_any}
use Rattle.std.specs.Str.{bytes_eq}
use Rattle.std.specs.Cmp.Lexicographic.{other_text}
use Rattle.std.proofs.lemmas.Bool.{and_parts, leb-true}
use Rattle.std.proofs.lemmas.List.{get_or-take, length-take}
use Rattle.std.proofs.lemmas.List.Folds.{list_any_at}
use Rattle.heco_circuit.specs.Circuits.{IsCircuit}
use Rattle.heco_circuit.specs.Plans.{Plan as Circuit, push, is_input, is_output, names_input, wire_parts}
use Rattle.heco_circuit.specs.declared.gate.Output.{Output}
use Rattle.heco_nums.specs.Runs.{all_along}
use Rattle.heco_nums.specs.Presets.{modulus_of, slots_of}
use Rattle.heco_nums.specs.declared.shape.Shape.{Shape}
use Rattle.heco_texts.specs.Answers.{HaveOwnNames}

-- ---- each item where it stands

-- each passes behind those before it
at_place : {A : Type 0} (test : List A → A → Bool) (before xs : List A) (j : ℕ) (d : A) → all_along test push before xs ≡ true → j < length xs → test (before ++ take j xs) (get_or xs j d) ≡ true
at_place test before [] j d h lt = absurd (omega arith)
at_place test before (x ∷ xs) zero d h lt = subst (λ b. test b x ≡ true) (sym (append-nil before)) (and_parts _ _ h).0
at_place test before (x ∷ xs) (suc j) d h lt =
    subst (λ b. test b (get_or xs j d) ≡ true) (append_assoc before (x ∷ []) (take j xs)) (at_place test (push before x) xs j d (and_parts _ _ h).1 (omega arith))

-- ---- inputs

record Ports (c : Circuit) : Type 0 where
  input_count : length c.inputs ≤ 256
  inputs : all_along (is_input (slots_of c.preset)) push [] c.inputs ≡ true
  gate_count : length c.gates ≤ 2 ^ 25 - 1
  outputs : all_along (is_output (modulus_of c.preset) (slots_of c.preset) c.inputs (wire_parts c)) push [] c.outputs ≡ true

ports : (c : Circuit) → IsCircuit c → Ports c
ports c valid =
    let formed = and_parts _ _ valid.0 in
    let behind = and_parts _ _ formed.1 in
    let inputs = and_parts _ _ behind.0 in
    let last = and_parts _ _ (and_parts _ _ behind.1).1 in
    let gates = and_parts _ _ last.0 in
    let outputs = and_parts _ _ last.1 in
    record {
      input_count = leb-true _ _ inputs.0;
      inputs = inputs.1;
      gate_count = leb-true _ _ gates.0;
      outputs = outputs.1;
    }

pub few_inputs : (c : Circuit) → IsCircuit c → length c.inputs ≤ 256
few_inputs c valid = (ports c valid).input_count

pub few_gates : (c : Circuit) → IsCircuit c → length c.gates ≤ 2 ^ 25 - 1
few_gates c valid = (ports c valid).gate_count

short_shape : (slots : ℕ) (before : List Shape) (s : Shape) → is_input slots before s ≡ true → s.len ≤ slots
short_shape slots before s h = leb-true _ _ (and_parts _ _ (and_parts _ _ h).1).1

pub short_inputs : (c : Circuit) → IsCircuit c → All (λ s. s.len ≤ slots_of c.preset) c.inputs
short_inputs c valid k d lt = short_shape (slots_of c.preset) (take k c.inputs) (get_or c.inputs k d) (at_place (is_input (slots_of c.preset)) [] c.inputs k d (ports c valid).inputs lt)

-- a name that is new is no earlier one
not_true : (b : Bool) → not b ≡ true → b ≡ true → ⊥
not_true true h e = cc
not_true false h e = cc

new_name : (slots : ℕ) (before : List Shape) (s : Shape) → is_input slots before s ≡ true → list_any (names_input s.name) before ≡ true → ⊥
new_name slots before s h = not_true _ (and_parts _ _ (and_parts _ _ (and_parts _ _ (and_parts _ _ h).0).1).0).1

same_or_other : (b : Bool) → (b ≡ true) ⊎ (b ≡ false)
same_or_other true = inl refl
same_or_other false = inr refl

apart : (before : List Shape) (name : List ℕ) (i : ℕ) (d : Shape) → (list_any (names_input name) before ≡ true → ⊥) → i < length before → (get_or before i d).name ≢ name
apart before name i d new lt = elim (same_or_other (bytes_eq (get_or before i d).name name)) [
  | inl same ↦ absurd (new (list_any_at (names_input name) before i d lt same))
  | inr other ↦ other_text (get_or before i d).name name (sym other)
]

pub own_names : (c : Circuit) → IsCircuit c → HaveOwnNames c.inputs
own_names c valid i j d before inside =
    let s = get_or c.inputs j d in
    let new = new_name (slots_of c.preset) (take j c.inputs) s (at_place (is_input (slots_of c.preset)) [] c.inputs j d (ports c valid).inputs inside) in
    let lt : i < length (take j c.inputs) = omega (arith, length-take j c.inputs) in
    subst (λ (e : Shape). e.name ≢ s.name) (get_or-take j c.inputs i d before) (apart (take j c.inputs) s.name i d new lt)

-- ---- outputs

short_output : (t slots : ℕ) (inputs : List Shape) (parts : List ℕ) (before : List Output) (o : Output) → is_output t slots inputs parts before o ≡ true → length o.cells ≤ 4096
short_output t slots inputs parts before o h = leb-true _ _ (and_parts _ _ (and_parts _ _ (and_parts _ _ h).1).0).1

pub short_outputs : (c : Circuit) → IsCircuit c → All (λ o. length o.cells ≤ 4096) c.outputs
short_outputs c valid k d lt =
    short_output (modulus_of c.preset) (slots_of c.preset) c.inputs (wire_parts c) (take k c.outputs) (get_or c.outputs k d)
    (at_place (is_output (modulus_of c.preset) (slots_of c.preset) c.inputs (wire_parts c)) [] c.outputs k d (ports c valid).outputs lt)
