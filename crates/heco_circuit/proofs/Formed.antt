-- The test of a circuit says that it has a spelling.
use Rattle.std.proofs.Common.{◌≡◌, ℕ, ◌+◌, ◌-◌, ◌^◌, ◌<◌, ◌≤◌, Bool, true, false, ◌&&◌, leb, ltb, eqb, List, [], ◌∷◌, length, refl, ap, ◌∙◌, arith, length-append, cond}
use Rattle.std.specs.Prelude.{IsTrue}
use Rattle.std.specs.List.{list_all, list_any}
use Rattle.std.proofs.lemmas.Bool.{leb-true, ltb-true, eq-eqb}
use Rattle.std.proofs.lemmas.Bool.Decides.{nat_tests}
use Rattle.heco_nums.specs.Presets.{modulus_of, slots_of}
use Rattle.heco_nums.specs.declared.shape.Shape.{Shape}
use Rattle.heco_nums.specs.Runs.{all_along, stays}
use Rattle.heco_nums.specs.Runs.{FitAlong}
use Rattle.heco_fields.proofs.ManyLaws.{along_passes, both_along, passes_along}
use Rattle.heco_circuit.specs.declared.gate.Cell.{Cell}
use Rattle.heco_circuit.specs.declared.gate.Cell.TheVariants.{Number, Slot}
use Rattle.heco_circuit.specs.declared.gate.Gate.{Gate}
use Rattle.heco_circuit.specs.declared.gate.Gate.TheVariants.{Neg, Add, Sub, Mul, Relin, Scale, Shift, Turn, Weigh}
use Rattle.heco_circuit.specs.declared.gate.Output.{Output}
use Rattle.heco_circuit.specs.Validity.{is_between, is_wire, has_parts, is_gate, parts_of, with_gate}
use Rattle.heco_circuit.specs.Versions.{is_sub, newest, version_of}
use Rattle.heco_circuit.specs.Plans.{Plan, push, is_new, is_name, is_input, is_vector, is_cell, is_output, input_parts, wire_parts, are_inputs, are_vectors, are_gates, are_outputs, is_formed}
use Rattle.heco_fields.proofs.Bools.{both_true, and_true}
use Rattle.heco_circuit.proofs.GateLaws.{MayStand, IsNarrow, names_vector, is_of, own_version}
use Rattle.heco_circuit.proofs.PortLaws.{IsInput, IsCell, IsOutput}
use Rattle.heco_circuit.proofs.VectorLaws.{AreVectors, vectors_pass_all, none_there, some_there}
use Rattle.heco_circuit.proofs.CircuitLaw.{IsPlan, AreInputs, AreGates, AreOutputs}
use Rattle.heco_circuit.proofs.Lengths.{length-input_parts, length-along}

slots_small : (id : ℕ) → slots_of id ≤ 512
slots_small id = grind (arith, nat_tests)

modulus_small : (id : ℕ) → modulus_of id ≤ 65537
modulus_small id = grind (arith, nat_tests)

high : (low most n : ℕ) → IsTrue (is_between low most n) → n ≤ most
high low most n h = leb-true n most (both_true (leb low n) (leb n most) h).1

between : (most n : ℕ) → n ≤ most → IsTrue (is_between 0 most n)
between most n le = grind (arith, nat_tests)

-- ---- inputs

input_passes : (slots : ℕ) (earlier : List Shape) (s : Shape) → IsInput slots earlier s → IsTrue (is_input slots earlier s)
input_passes slots earlier s h = and_true (is_name earlier [] s.name) (is_between 1 slots s.len) (and_true (is_between 1 (2 ^ 20) (length s.name)) (is_new earlier [] s.name) h.0.0 h.0.1) h.1.1

input_from : (slots : ℕ) → slots ≤ 512 → (earlier : List Shape) (s : Shape) → IsTrue (is_input slots earlier s) → IsInput slots earlier s
input_from slots small earlier s h =
    let u = both_true (is_name earlier [] s.name) (is_between 1 slots s.len) h in
    let v = both_true (is_between 1 (2 ^ 20) (length s.name)) (is_new earlier [] s.name) u.0 in
    let le = high 1 slots s.len u.1 in
    ((v.0, v.1), (omega arith, u.1))

-- ---- gates

wire_small : (parts : List ℕ) (a : ℕ) → length parts ≤ 2 ^ 32 → is_wire parts a ≡ true → a < 2 ^ 32
wire_small parts a le h = let lt = ltb-true a (length parts) h in omega arith

parts_small : (count : ℕ) (parts : List ℕ) (a : ℕ) → length parts ≤ 2 ^ 32 → has_parts count parts a ≡ true → a < 2 ^ 32
parts_small count parts a le h = wire_small parts a le (both_true (is_wire parts a) _ h).0

constant_small : (t low c : ℕ) → t ≤ 65537 → is_between low (t - 1) c ≡ true → c < 2 ^ 32
constant_small t low c small h = let le = high low (t - 1) c h in omega arith

amount_small : (slots low r : ℕ) → slots ≤ 512 → is_between low (slots - 1) r ≡ true → r < 2 ^ 16
amount_small slots low r small h = let le = high low (slots - 1) r h in omega arith

narrow : (t slots vectors : ℕ) (parts : List ℕ) → t ≤ 65537 → slots ≤ 512 → vectors ≤ 256 → length parts ≤ 2 ^ 32 → (g : Gate) → IsTrue (is_gate t slots vectors parts g) → IsNarrow g
narrow t slots vectors parts ts ss vs le (Neg a) h = wire_small parts a le h
narrow t slots vectors parts ts ss vs le (Add a b) h = let u = both_true (is_wire parts a) (is_wire parts b) h in (wire_small parts a le u.0, wire_small parts b le u.1)
narrow t slots vectors parts ts ss vs le (Sub a b) h = let u = both_true (is_wire parts a) (is_wire parts b) h in (wire_small parts a le u.0, wire_small parts b le u.1)
narrow t slots vectors parts ts ss vs le (Mul a b) h = let u = both_true (has_parts 2 parts a) (has_parts 2 parts b) h in (parts_small 2 parts a le u.0, parts_small 2 parts b le u.1)
narrow t slots vectors parts ts ss vs le (Relin a) h = parts_small 3 parts a le h
narrow t slots vectors parts ts ss vs le (Scale c a) h = let u = both_true (is_between 1 (t - 1) c) (is_wire parts a) h in (constant_small t 1 c ts u.0, wire_small parts a le u.1)
narrow t slots vectors parts ts ss vs le (Shift c a) h = let u = both_true (is_between 0 (t - 1) c) (is_wire parts a) h in (constant_small t 0 c ts u.0, wire_small parts a le u.1)
narrow t slots vectors parts ts ss vs le (Turn r a) h = let u = both_true (is_between 1 (slots - 1) r) (has_parts 2 parts a) h in (amount_small slots 1 r ss u.0, parts_small 2 parts a le u.1)
narrow t slots vectors parts ts ss vs le (Weigh v a) h = let u = both_true (ltb v vectors) (is_wire parts a) h in let lt = ltb-true v vectors u.0 in (omega arith, wire_small parts a le u.1)

-- so many wires may follow
abbrev HasRoom : ℕ → List ℕ → Type 0
HasRoom n parts = length parts + n ≤ 2 ^ 32

gate_names : (t slots vectors : ℕ) (parts : List ℕ) (g : Gate) → IsTrue (is_gate t slots vectors parts g) → IsTrue (names_vector vectors g)
gate_names t slots vectors parts (Neg a) h = refl
gate_names t slots vectors parts (Add a b) h = refl
gate_names t slots vectors parts (Sub a b) h = refl
gate_names t slots vectors parts (Mul a b) h = refl
gate_names t slots vectors parts (Relin a) h = refl
gate_names t slots vectors parts (Scale c a) h = refl
gate_names t slots vectors parts (Shift c a) h = refl
gate_names t slots vectors parts (Turn r a) h = refl
gate_names t slots vectors parts (Weigh v a) h = (both_true (ltb v vectors) (is_wire parts a) h).0

gates_name : (t slots vectors : ℕ) (parts : List ℕ) (gs : List Gate) → IsTrue (all_along (is_gate t slots vectors) with_gate parts gs) → IsTrue (list_all (names_vector vectors) gs)
gates_name t slots vectors parts [] h = refl
gates_name t slots vectors parts (g ∷ gs) h =
    let u = both_true (is_gate t slots vectors parts g) (all_along (is_gate t slots vectors) with_gate (with_gate parts g) gs) h in
    and_true (names_vector vectors g) (list_all (names_vector vectors) gs) (gate_names t slots vectors parts g u.0) (gates_name t slots vectors (with_gate parts g) gs u.1)

gates_from : (version t slots vectors : ℕ) → t ≤ 65537 → slots ≤ 512 → vectors ≤ 256 → (parts : List ℕ) (gs : List Gate) → HasRoom (length gs) parts → IsTrue (all_along (is_gate t slots vectors) with_gate parts gs)
    → IsTrue (list_all (is_of version) gs) → FitAlong (MayStand version t slots vectors) with_gate parts gs
gates_from version t slots vectors ts ss vs parts gs room valid of =
    both_along (λ parts g. IsTrue (is_gate t slots vectors parts g) × IsNarrow g) (is_of version) with_gate parts gs
    (passes_along (λ parts g. IsTrue (is_gate t slots vectors parts g) × IsNarrow g) (is_gate t slots vectors) with_gate HasRoom
    (λ n parts g room. omega (arith, length-append parts (parts_of parts g ∷ [])))
    (λ n parts g room h. (h, narrow t slots vectors parts ts ss vs (omega arith) g h))
    parts gs room valid)
    of

-- ---- outputs

cells_pass : (t slots : ℕ) (parts : List ℕ) (cs : List Cell) → FitAlong (IsCell t slots) stays parts cs → IsTrue (list_all (is_cell t slots parts) cs)
unfolding FitAlong
cells_pass t slots parts [] fits = refl
cells_pass t slots parts (c ∷ cs) fits = let h : is_cell t slots parts c ≡ true = fits.0.0 in rw h (cells_pass t slots parts cs fits.1)

cell_from : (t slots : ℕ) (parts : List ℕ) → t ≤ 65537 → slots ≤ 512 → length parts ≤ 2 ^ 32 → (c : Cell) → IsTrue (is_cell t slots parts c) → IsCell t slots parts c
cell_from t slots parts ts ss le (Number n) h = (h, constant_small t 0 n ts h)
cell_from t slots parts ts ss le (Slot w s) h = let u = both_true (has_parts 2 parts w) (is_between 0 (slots - 1) s) h in (h, (parts_small 2 parts w le u.0, amount_small slots 0 s ss u.1))

cells_from : (t slots : ℕ) (parts : List ℕ) → t ≤ 65537 → slots ≤ 512 → length parts ≤ 2 ^ 32 → (cs : List Cell) → IsTrue (list_all (is_cell t slots parts) cs) → FitAlong (IsCell t slots) stays parts cs
unfolding FitAlong
cells_from t slots parts ts ss le [] h = tt
cells_from t slots parts ts ss le (c ∷ cs) h = let u = both_true (is_cell t slots parts c) (list_all (is_cell t slots parts) cs) h in (cell_from t slots parts ts ss le c u.0, cells_from t slots parts ts ss le cs u.1)

output_passes : (t slots : ℕ) (inputs : List Shape) (parts : List ℕ) (earlier : List Output) (o : Output) → IsOutput t slots inputs parts earlier o → IsTrue (is_output t slots inputs parts earlier o)
output_passes t slots inputs parts earlier o h =
    and_true (is_name inputs earlier o.name) (is_between 1 4096 (length o.cells) && list_all (is_cell t slots parts) o.cells) (and_true (is_between 1 (2 ^ 20) (length o.name)) (is_new inputs earlier o.name) h.0.0 h.0.1)
    (and_true (is_between 1 4096 (length o.cells)) (list_all (is_cell t slots parts) o.cells) h.1.0.1 (cells_pass t slots parts o.cells h.1.1))

output_from : (t slots : ℕ) (inputs : List Shape) (parts : List ℕ) → t ≤ 65537 → slots ≤ 512 → length parts ≤ 2 ^ 32 → (earlier : List Output) (o : Output) → IsTrue (is_output t slots inputs parts earlier o) → IsOutput t slots inputs parts earlier o
output_from t slots inputs parts ts ss le earlier o h =
    let u = both_true (is_name inputs earlier o.name) (is_between 1 4096 (length o.cells) && list_all (is_cell t slots parts) o.cells) h in
    let v = both_true (is_between 1 (2 ^ 20) (length o.name)) (is_new inputs earlier o.name) u.0 in
    let w = both_true (is_between 1 4096 (length o.cells)) (list_all (is_cell t slots parts) o.cells) u.1 in
    let few = high 1 4096 (length o.cells) w.0 in
    ((v.0, v.1), ((omega arith, w.0), cells_from t slots parts ts ss le o.cells w.1))

abbrev Any : {A : Type 0} → ℕ → List A → Type 0
Any n xs = Unit {0}

-- ---- the version

version_cases : (P : ℕ → Type 0) → P 3 → P 2 → P 1 → (vectors : List (List ℕ)) (gates : List Gate) → P (version_of vectors gates)
version_cases P three two one (v ∷ vectors) gates = three
version_cases P three two one [] gates = by (list_any is_sub gates)
  where
    by : (some : Bool) → P (cond some 2 1)
    by true = two
    by false = one

few_versions : (vectors : List (List ℕ)) (gates : List Gate) → version_of vectors gates < 2 ^ 8
few_versions vectors gates = version_cases (λ v. v < 2 ^ 8) (omega arith) (omega arith) (omega arith) vectors gates

version_between : (vectors : List (List ℕ)) (gates : List Gate) → IsTrue (is_between 1 newest (version_of vectors gates))
version_between vectors gates = version_cases (λ v. IsTrue (is_between 1 newest v)) refl refl refl vectors gates

not_three : (some : Bool) → eqb (cond some 2 1) 3 ≡ false
not_three true = refl
not_three false = refl

-- vectors that pass stand in a file of the circuit's own version
own_vectors : (id : ℕ) (vectors : List (List ℕ)) (gates : List Gate) → IsTrue (leb (length vectors) 256 && list_all (is_vector (modulus_of id) (slots_of id)) vectors) → AreVectors (version_of vectors gates) id vectors
own_vectors id [] gates h = none_there (version_of [] gates) id (not_three (list_any is_sub gates))
own_vectors id (v ∷ vectors) gates h = some_there id (modulus_small id) v vectors h

-- ---- the whole

pub formed : (p : Plan) → IsPlan p → IsTrue (is_formed p)
formed p h =
    let id = p.preset in
    let version = version_of p.vectors p.gates in
    let vectors = length p.vectors in
    let t = modulus_of id in
    let slots = slots_of id in
    let i : IsTrue (are_inputs p) = and_true _ _ (both_true _ _ h.1.0.0.1).1 (along_passes (IsInput slots) (is_input slots) push (input_passes slots) [] p.inputs h.1.0.1) in
    let v : IsTrue (are_vectors p) = vectors_pass_all version id p.vectors h.1.1.0 in
    let g : IsTrue (are_gates p) = and_true _ _ (both_true _ _ h.1.1.1.0.0.1).1 (along_passes (MayStand version t slots vectors) (is_gate t slots vectors) with_gate (λ parts g m. m.0.0) (input_parts p.inputs) p.gates h.1.1.1.0.1) in
    let o : IsTrue (are_outputs p) = and_true _ _ (both_true _ _ (both_true (eqb version version) (is_between 0 (256 - length p.inputs) (length p.outputs)) h.1.1.1.1.0.1).1).1 (along_passes (IsOutput t slots p.inputs (wire_parts p)) (is_output t slots p.inputs (wire_parts p)) push (output_passes t slots p.inputs (wire_parts p)) [] p.outputs h.1.1.1.1.1) in
    and_true (is_between 1 5 id) (are_inputs p && (are_vectors p && (are_gates p && are_outputs p))) h.0.1.1 (and_true (are_inputs p) (are_vectors p && (are_gates p && are_outputs p)) i (and_true (are_vectors p) (are_gates p && are_outputs p) v (and_true (are_gates p) (are_outputs p) g o)))

pub spellable : (p : Plan) → IsTrue (is_formed p) → IsPlan p
spellable p h =
    let id = p.preset in
    let version = version_of p.vectors p.gates in
    let vectors = length p.vectors in
    let t = modulus_of id in
    let slots = slots_of id in
    let ts = modulus_small id in
    let ss = slots_small id in
    let a = both_true (is_between 1 5 id) (are_inputs p && (are_vectors p && (are_gates p && are_outputs p))) h in
    let b = both_true (are_inputs p) (are_vectors p && (are_gates p && are_outputs p)) a.1 in
    let d = both_true (are_vectors p) (are_gates p && are_outputs p) b.1 in
    let c = both_true (are_gates p) (are_outputs p) d.1 in
    let i = both_true (leb (length p.inputs) 256) (all_along (is_input slots) push [] p.inputs) b.0 in
    let v = both_true (leb (length p.vectors) 256) (list_all (is_vector t slots) p.vectors) d.0 in
    let g = both_true (leb (length p.gates) (2 ^ 25 - 1)) (all_along (is_gate t slots vectors) with_gate (input_parts p.inputs) p.gates) c.0 in
    let o = both_true (leb (length p.outputs) (256 - length p.inputs)) (all_along (is_output t slots p.inputs (wire_parts p)) push [] p.outputs) c.1 in
    let id_le = high 1 5 id a.0 in
    let i_le = leb-true _ _ i.0 in
    let v_le : vectors ≤ 256 = leb-true vectors 256 v.0 in
    let g_le : length p.gates ≤ 2 ^ 25 - 1 = leb-true (length p.gates) (2 ^ 25 - 1) g.0 in
    let o_le : length p.outputs ≤ 256 - length p.inputs = leb-true (length p.outputs) (256 - length p.inputs) o.0 in
    let wires : length (wire_parts p) ≡ length p.inputs + length p.gates = length-along (input_parts p.inputs) p.gates ∙ ap (λ n. n + length p.gates) (length-input_parts p.inputs) in
    let are_i : AreInputs id p.inputs = ((omega arith, between 256 (length p.inputs) i_le), passes_along (IsInput slots) (is_input slots) push Any (λ n s x _. tt) (λ n s x _ u. input_from slots ss s x u) [] p.inputs tt i.1) in
    let are_v : AreVectors version id p.vectors = own_vectors id p.vectors p.gates d.0 in
    let own = own_version p.vectors p.gates (gates_name t slots vectors (input_parts p.inputs) p.gates g.1) in
    let are_g : AreGates version id vectors (input_parts p.inputs) p.gates = ((omega arith, between (2 ^ 25 - 1) (length p.gates) g_le), gates_from version t slots vectors ts ss v_le (input_parts p.inputs) p.gates (omega (arith, length-input_parts p.inputs)) g.1 own) in
    let are_o : AreOutputs version id p.inputs p.vectors p.gates (wire_parts p) p.outputs = (
      (omega arith, and_true (eqb version version) (is_between 0 (256 - length p.inputs) (length p.outputs)) (eq-eqb version version refl) (between (256 - length p.inputs) (length p.outputs) o_le)),
      passes_along (IsOutput t slots p.inputs (wire_parts p)) (is_output t slots p.inputs (wire_parts p)) push Any (λ n s x _. tt) (λ n s x _ u. output_from t slots p.inputs (wire_parts p) ts ss (omega arith) s x u) [] p.outputs tt o.1,
    ) in
    (((few_versions p.vectors p.gates, version_between p.vectors p.gates), (omega arith, a.0)), (are_i, (are_v, (are_g, are_o))))
