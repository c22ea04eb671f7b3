-- A placed circuit is formed, quiet and short.
use Rattle.std.proofs.Common.{◌≡◌, ℕ, ◌+◌, ◌-◌, ◌*◌, ◌^◌, ◌≤◌, Bool, true, ◌&&◌, not, leb, List, [], ◌∷◌, ◌++◌, length, map, refl, sym, ap, subst, ◌∙◌, arith}
use Rattle.std.specs.Prelude.{codes}
use Rattle.std.specs.List.{list_any, list_all, sum_by, flat_map}
use Rattle.std.specs.Int.{w16, w32, to_be_bytes}
use Rattle.std.proofs.lemmas.Bool.{leb-true, le-leb}
use Rattle.std.proofs.lemmas.List.{length-append, length-map, map-append}
use Rattle.std.proofs.lemmas.List.Sums.{sum_by-cons}
use Rattle.heco_nums.specs.Presets.{modulus_of, slots_of}
use Rattle.heco_nums.specs.Words.{is_word}
use Rattle.heco_nums.specs.declared.shape.Shape.{Shape}
use Rattle.heco_nums.specs.Runs.{along, all_along}
use Rattle.heco_fields.specs.Formats.{versioned_text}
use Rattle.heco_circuit.specs.declared.gate.Cell.{Cell}
use Rattle.heco_circuit.specs.declared.gate.Gate.{Gate}
use Rattle.heco_circuit.specs.declared.gate.Output.{Output}
use Rattle.heco_circuit.specs.Validity.{is_between, is_gate, with_gate}
use Rattle.heco_circuit.specs.Plans.{names_input, names_output, is_name, is_input, is_cell, is_output, push, input_parts, is_formed, shape_of}
use Rattle.heco_circuit.specs.GateFormat.{gate_text}
use Rattle.heco_circuit.specs.CircuitFormat.{plan, header_of, name_text, input_text, cell_text, output_text, inputs_text, gates_text, outputs_text, circuit_text}
use Rattle.heco_circuit.specs.Circuits.{is_short, most}
use Rattle.heco_circuit.proofs.Lengths.{gates_short, cells_short, length-name_text}
use Rattle.heco_place.specs.inside.Cells.{cells_of}
use Rattle.heco_place.proofs.Bools.{both, left, right}
use Rattle.heco_place.proofs.KindCounts.{any-map}

-- behind these inputs and outputs: a word that none of them has as its name, and a length that an output may have
abbrev pub is_output_shape : List Shape → List Shape → Shape → Bool
is_output_shape inputs earlier s =
    (is_between 1 (2 ^ 20) (length s.name) && (is_word s.name && not (list_any (names_input s.name) inputs) && not (list_any (names_input s.name) earlier)))
    && is_between 1 4096 s.len

high : (low most n : ℕ) → is_between low most n ≡ true → n ≤ most
high low most n h = leb-true n most (right (leb low n) _ h)

-- ---- formed

names_same : (name : List ℕ) (os : List Output) → list_any (names_output name) os ≡ list_any (names_input name) (map shape_of os)
names_same name os = any-map shape_of (names_input name) (names_output name) (λ o. refl) os

all_left : (p : Cell → Bool) (xs ys : List Cell) → list_all p (xs ++ ys) ≡ true → list_all p xs ≡ true
all_left p [] ys e = refl
all_left p (x ∷ xs) ys e = both _ _ (left (p x) _ e) (all_left p xs ys (right (p x) _ e))

all_right : (p : Cell → Bool) (xs ys : List Cell) → list_all p (xs ++ ys) ≡ true → list_all p ys ≡ true
all_right p [] ys e = e
all_right p (x ∷ xs) ys e = all_right p xs ys (right (p x) _ e)

output_ok : (t slots : ℕ) (inputs : List Shape) (parts : List ℕ) (earlier : List Output) (o : Output) → is_output_shape inputs (map shape_of earlier) (shape_of o) ≡ true
    → list_all (is_cell t slots parts) o.cells ≡ true → is_output t slots inputs parts earlier o ≡ true
output_ok t slots inputs parts earlier o e f =
    both _ _
    (subst (λ b. (is_between 1 (2 ^ 20) (length o.name) && (is_word o.name && not (list_any (names_input o.name) inputs) && not b)) ≡ true) (sym (names_same o.name earlier))
    (left _ (is_between 1 4096 (length o.cells)) e))
    (both _ _ (right (is_between 1 (2 ^ 20) (length o.name) && (is_word o.name && not (list_any (names_input o.name) inputs) && not (list_any (names_input o.name) (map shape_of earlier)))) _ e) f)

outputs_ok : (t slots : ℕ) (inputs : List Shape) (parts : List ℕ) (earlier os : List Output) → all_along (is_output_shape inputs) push (map shape_of earlier) (map shape_of os) ≡ true
    → list_all (is_cell t slots parts) (flat_map cells_of os) ≡ true → all_along (is_output t slots inputs parts) push earlier os ≡ true
outputs_ok t slots inputs parts earlier [] e f = refl
outputs_ok t slots inputs parts earlier (o ∷ os) e f =
    both _ _ (output_ok t slots inputs parts earlier o (left _ _ e) (all_left (is_cell t slots parts) o.cells (flat_map cells_of os) f))
    (outputs_ok t slots inputs parts (push earlier o) os
    (subst (λ ss. all_along (is_output_shape inputs) push ss (map shape_of os) ≡ true) (sym (map-append shape_of earlier (o ∷ []))) (right (is_output_shape inputs (map shape_of earlier) (shape_of o)) _ e))
    (all_right (is_cell t slots parts) o.cells (flat_map cells_of os) f))

-- the parts of the test of ports
pub record Ports (id : ℕ) (inputs shapes : List Shape) : Type 0 where
  pub few_inputs : length inputs ≤ 256
  pub few_outputs : length shapes ≤ 256 - length inputs
  pub inputs_ok : all_along (is_input (slots_of id)) push [] inputs ≡ true
  pub shapes_ok : all_along (is_output_shape inputs) push [] shapes ≡ true

-- the texts of an input and of an output
pub input_short : (s : Shape) → length (input_text s) ≡ 6 + length s.name
input_short s = let two : length (to_be_bytes w16 s.len) ≡ 2 = refl in omega (arith, length-append (name_text s.name) (to_be_bytes w16 s.len), length-name_text s.name, two)

pub output_short : (o : Output) → length (output_text o) ≤ 6 + length o.name + 7 * length o.cells
output_short o =
    let two : length (to_be_bytes w16 (length o.cells)) ≡ 2 = refl in
    omega (
      arith,
      length-append (name_text o.name ++ to_be_bytes w16 (length o.cells)) (flat_map cell_text o.cells),
      length-append (name_text o.name) (to_be_bytes w16 (length o.cells)),
      length-name_text o.name,
      two,
      cells_short o.cells,
    )

module _ (id : ℕ) (inputs shapes : List Shape) (gates : List Gate) (outputs : List Output) (p : Ports id inputs shapes) (are : map shape_of outputs ≡ shapes)
    (few : length gates ≤ 20447232) where
  count : length outputs ≡ length shapes
  count = sym (length-map outputs shape_of) ∙ ap length are

  pub formed : 1 ≤ id → id ≤ 5 → all_along (is_gate (modulus_of id) (slots_of id) 0) with_gate (input_parts inputs) gates ≡ true
      → list_all (is_cell (modulus_of id) (slots_of id) (along with_gate (input_parts inputs) gates)) (flat_map cells_of outputs) ≡ true → is_formed (plan id inputs gates outputs) ≡ true
  formed low up valid cells =
      both _ _ (both _ _ (le-leb 1 id low) (le-leb id 5 up))
      (both _ _ (both _ _ (le-leb (length inputs) 256 p.few_inputs) p.inputs_ok)
      (both _ _ (both _ _ (le-leb (length gates) (2 ^ 25 - 1) (omega arith)) valid)
      (both _ _ (le-leb (length outputs) (256 - length inputs) (rw count p.few_outputs))
      (outputs_ok (modulus_of id) (slots_of id) inputs (along with_gate (input_parts inputs) gates) [] outputs (rw are p.shapes_ok) cells))))

  -- ---- short

  inputs_short : (slots : ℕ) (earlier xs : List Shape) → all_along (is_input slots) push earlier xs ≡ true → length (flat_map input_text xs) ≤ 1048582 * length xs
  inputs_short slots earlier [] e = omega arith
  inputs_short slots earlier (x ∷ xs) e =
      let le : length x.name ≤ 2 ^ 20 = high 1 (2 ^ 20) (length x.name) (left _ _ (left (is_name earlier [] x.name) _ (left (is_input slots earlier x) _ e))) in
      omega (arith, length-append (input_text x) (flat_map input_text xs), le, input_short x, inputs_short slots (push earlier x) xs (right (is_input slots earlier x) _ e))

  outputs_short : (earlier : List Shape) (os : List Output) → all_along (is_output_shape inputs) push earlier (map shape_of os) ≡ true → length (flat_map output_text os) ≤ 1077254 * length os
  outputs_short earlier [] e = omega arith
  outputs_short earlier (o ∷ os) e =
      let here = left (is_output_shape inputs earlier (shape_of o)) _ e in
      let le : length o.name ≤ 2 ^ 20 = high 1 (2 ^ 20) (length o.name) (left _ _ (left _ (is_between 1 4096 (length o.cells)) here)) in
      let le2 : length o.cells ≤ 4096 =
      high 1 4096 (length o.cells) (right (is_between 1 (2 ^ 20) (length o.name) && (is_word o.name && not (list_any (names_input o.name) inputs) && not (list_any (names_input o.name) earlier))) _ here) in
      omega (arith, length-append (output_text o) (flat_map output_text os), le, le2, output_short o, outputs_short (push earlier (shape_of o)) os (right (is_output_shape inputs earlier (shape_of o)) _ e))

  text_short : length (circuit_text (plan id inputs gates outputs)) ≤ 536870911
  text_short =
      let i : List ℕ = inputs_text inputs in
      let g : List ℕ = gates_text gates in
      let o : List ℕ = outputs_text outputs in
      let h : List ℕ = versioned_text (codes "HCIR") (header_of (plan id inputs gates outputs)) in
      let head : length h ≡ 6 = refl in
      let li : length i ≡ 2 + length (flat_map input_text inputs) = length-append (to_be_bytes w16 (length inputs)) (flat_map input_text inputs) in
      let lg : length g ≡ 4 + length (flat_map gate_text gates) = length-append (to_be_bytes w32 (length gates)) (flat_map gate_text gates) in
      let lo : length o ≡ 2 + length (flat_map output_text outputs) = length-append (to_be_bytes w16 (length outputs)) (flat_map output_text outputs) in
      let si : length (flat_map input_text inputs) ≤ 1048582 * length inputs = inputs_short (slots_of id) [] inputs p.inputs_ok in
      let so : length (flat_map output_text outputs) ≤ 1077254 * length outputs = outputs_short [] outputs (rw are p.shapes_ok) in
      let sg : length (flat_map gate_text gates) ≤ 9 * length gates = gates_short gates in
      let whole : length (circuit_text (plan id inputs gates outputs)) ≡ length h + (length i + (length g + length o)) =
      length-append h (i ++ (g ++ o)) ∙ ap (λ n. length h + n) (length-append i (g ++ o) ∙ ap (λ n. length i + n) (length-append g o)) in
      let few_in : length inputs ≤ 256 = p.few_inputs in
      let few_out : length outputs ≤ 256 - length inputs = rw count p.few_outputs in
      sum-short (length h) (length i) (length g) (length o) _ whole head (length inputs) (length gates) (length outputs) (omega arith) (omega arith) (omega arith) few_in few few_out
    where
      sum-short : (h i g o n : ℕ) → n ≡ h + (i + (g + o)) → h ≡ 6 → (a b c : ℕ) → i ≤ 2 + 1048582 * a → g ≤ 4 + 9 * b → o ≤ 2 + 1077254 * c → a ≤ 256 → b ≤ 20447232 → c ≤ 256 - a → n ≤ 536870911
      sum-short h i g o n e f a b c hi hg ho ha hb hc = omega arith

  pub short : is_short (plan id inputs gates outputs) ≡ true
  unfolding is_short
  short = le-leb _ _ text_short

-- outputs have few elements
shapes_total : (inputs earlier xs : List Shape) → all_along (is_output_shape inputs) push earlier xs ≡ true → sum_by (λ (s : Shape). s.len) xs ≤ 4096 * length xs
shapes_total inputs earlier [] e = omega arith
shapes_total inputs earlier (x ∷ xs) e =
    let here = left (is_output_shape inputs earlier x) _ e in
    let le : x.len ≤ 4096 =
    high 1 4096 x.len (right (is_between 1 (2 ^ 20) (length x.name) && (is_word x.name && not (list_any (names_input x.name) inputs) && not (list_any (names_input x.name) earlier))) _ here) in
    omega (arith, sum_by-cons (λ (s : Shape). s.len) x xs, le, shapes_total inputs (push earlier x) xs (right (is_output_shape inputs earlier x) _ e))

pub few_elements : (id : ℕ) (inputs shapes : List Shape) → Ports id inputs shapes → sum_by (λ (s : Shape). s.len) shapes ≤ 2 ^ 20
few_elements id inputs shapes p = omega (arith, shapes_total inputs [] shapes p.shapes_ok, p.few_outputs)
