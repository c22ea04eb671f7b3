-- A gathered circuit is valid.
use Rattle.std.proofs.Common.{◌≡◌, refl, sym, ap, ℕ, ◌+◌, ◌-◌, ◌^◌, ◌≤◌, List, [], ◌∷◌, ◌++◌, map, length, length-append, arith, Bool, true, subst}
use Rattle.std.specs.Prelude.{filter}
use Rattle.std.specs.List.{list_all}
use Rattle.std.specs.Option.{is_none}
use Rattle.std.proofs.lemmas.Bool.{le-leb, leb-true}
use Rattle.std.proofs.lemmas.List.{length-map, length-take}
use Rattle.heco_nums.specs.Presets.{modulus_of, slots_of}
use Rattle.heco_nums.specs.Runs.{along, all_along}
use Rattle.heco_fields.proofs.Bools.{both_true, and_true}
use Rattle.heco_circuit.specs.Circuits.{IsCircuit}
use Rattle.heco_circuit.specs.Plans.{Plan, input_parts, wire_parts, is_vector, is_output, is_cell, push, are_vectors, are_gates, are_outputs, is_formed}
use Rattle.heco_circuit.specs.Validity.{with_gate}
use Rattle.heco_rewrites.specs.Wires.{first_wires, cell_over, output_over}
use Rattle.heco_rewrites.proofs.Along.{along_parts}
use Rattle.heco_rewrites.proofs.Outputs.{cells_stand, outputs_stand}
use Rattle.heco_plainvec.specs.Gathering.{asked, vector, chosen, serves, wires, most_vectors, HasRoom}
use Rattle.heco_plainvec.specs.Gathered.{name, gathered_gates, gathered_vectors, gathered}
use Rattle.heco_plainvec.proofs.AskedAll.{asked_are, vector_fits}
use Rattle.heco_plainvec.proofs.Sweep.{AreSwept}
use Rattle.heco_plainvec.proofs.Whole.{Valid, valid, all_wires, new_wires, whole}
use Rattle.heco_plainvec.proofs.Outputs.{cell_stands}
use Rattle.heco_plainvec.proofs.Counts.{fewer_gates}
use Rattle.heco_plainvec.proofs.Sizes.{still_short}

-- ---- the vectors
vector_is : (c : Plan) (a : ℕ) → Valid c → is_vector (modulus_of c.preset) (slots_of c.preset) (vector c a) ≡ true
vector_is c a v = vector_fits c.preset (asked c a) (asked_are c a v)

all_append : {X : Type 0} (test : X → Bool) (xs ys : List X) → list_all test xs ≡ true → list_all test ys ≡ true → list_all test (xs ++ ys) ≡ true
all_append test [] ys h g = g
all_append test (x ∷ xs) ys h g = let u = both_true (test x) (list_all test xs) h in and_true (test x) (list_all test (xs ++ ys)) u.0 (all_append test xs ys u.1 g)

all_map : {X Y : Type 0} (test : Y → Bool) (f : X → Y) (xs : List X) → ((x : X) → test (f x) ≡ true) → list_all test (map f xs) ≡ true
all_map test f [] h = refl
all_map test f (x ∷ xs) h = and_true (test (f x)) (list_all test (map f xs)) (h x) (all_map test f xs h)

pub vectors_are : (c : Plan) → Valid c → list_all (is_vector (modulus_of c.preset) (slots_of c.preset)) (gathered_vectors c) ≡ true
vectors_are c v =
    all_append (is_vector (modulus_of c.preset) (slots_of c.preset)) c.vectors (map (vector c) (chosen c)) v.vectors
    (all_map (is_vector (modulus_of c.preset) (slots_of c.preset)) (vector c) (chosen c) (λ a. vector_is c a v))

pub chosen_few : (c : Plan) → length (chosen c) ≤ most_vectors - length c.vectors
unfolding chosen
chosen_few c = let l = length-take (most_vectors - length c.vectors) (filter (serves c) (wires c)) in omega (arith, l)

pub vectors_few : (c : Plan) → Valid c → length (gathered_vectors c) ≤ 256
vectors_few c v =
    let a = leb-true (length c.vectors) 256 v.few_vectors in
    let b = chosen_few c in
    let l = length-append c.vectors (map (vector c) (chosen c)) in
    let m = length-map (chosen c) (vector c) in
    omega (arith, a, b, l, m)

-- ---- the whole
abbrev pub no_rows : Plan → List (List ℕ)
no_rows c = map (λ s. []) c.inputs

new_parts : (c : Plan) → (new_wires c (no_rows c)).parts ≡ along with_gate (input_parts c.inputs) (gathered_gates c)
new_parts c = along_parts c.preset (gathered_vectors c) (first_wires c (no_rows c)) (gathered_gates c)

old_parts : (c : Plan) → (all_wires c (no_rows c)).parts ≡ wire_parts c
old_parts c = along_parts c.preset c.vectors (first_wires c (no_rows c)) c.gates

outputs_are : (c : Plan) → Valid c → AreSwept c (length c.inputs) (first_wires c (no_rows c)) (first_wires c (no_rows c)) c.gates (gathered_gates c)
    → all_along (is_output (modulus_of c.preset) (slots_of c.preset) c.inputs (along with_gate (input_parts c.inputs) (gathered_gates c))) push [] (map (output_over (name c)) c.outputs) ≡ true
outputs_are c v w =
    let t : ℕ = modulus_of c.preset in
    let N : ℕ = slots_of c.preset in
    outputs_stand t N c.inputs (wire_parts c) (along with_gate (input_parts c.inputs) (gathered_gates c)) (name c) [] c.outputs v.outputs (λ i j o x e q.
    let old : is_cell t N (wire_parts c) x ≡ true = cells_stand t N c.inputs (wire_parts c) [] c.outputs i j o x v.outputs e q in
    let here : is_cell t N (all_wires c (no_rows c)).parts x ≡ true = subst (λ ps. is_cell t N ps x ≡ true) (sym (old_parts c)) old in
    let new = cell_stands c (all_wires c (no_rows c)) (new_wires c (no_rows c)) (length c.inputs + length c.gates) x w.swept here in
    subst (λ ps. is_cell t N ps (cell_over (name c) x) ≡ true) (new_parts c) new)

pub gathered_valid : (c : Plan) → IsCircuit c → HasRoom c → IsCircuit (gathered c)
unfolding gathered
gathered_valid c h short =
    let v : Valid c = valid c h in
    let d : Plan = gathered c in
    let w = whole c (no_rows c) v (length-map c.inputs (λ s. [])) in
    let few = vectors_few c v in
    let are = vectors_are c v in
    let gates = leb-true (length c.gates) (2 ^ 25 - 1) v.few_gates in
    let fewer = fewer_gates c in
    let outs = leb-true (length c.outputs) (256 - length c.inputs) v.few_outputs in
    let same : length d.outputs ≡ length c.outputs = length-map c.outputs (output_over (name c)) in
    let vectors : are_vectors d ≡ true = and_true _ _ (le-leb (length d.vectors) 256 few) are in
    let gate : are_gates d ≡ true = and_true _ _ (le-leb (length d.gates) (2 ^ 25 - 1) (omega (arith, gates, fewer))) w.formed in
    let out : are_outputs d ≡ true = and_true _ _ (le-leb (length d.outputs) (256 - length c.inputs) (omega (arith, outs, same))) (outputs_are c v w) in
    let formed : is_formed d ≡ true = and_true _ _ v.preset (and_true _ _ v.inputs (and_true _ _ vectors (and_true _ _ gate out))) in
    (formed, ap is_none (w.quiet 0), still_short c short few are)
