-- A gathered circuit's file is short, where that of the circuit leaves room.
use Rattle.std.proofs.Common.{◌≡◌, refl, ap, ℕ, ◌+◌, ◌*◌, ◌-◌, ◌≤◌, List, [], ◌∷◌, length, length-append, arith, inl, inr, true, eqb}
use Rattle.std.specs.Prelude.{codes, Some, slice_get, flat_map}
use Rattle.std.specs.List.{list_all, sum_by}
use Rattle.std.specs.Int.{w16, w32, to_be_bytes}
use Rattle.std.proofs.lemmas.Bool.{eqb-true, le-leb}
use Rattle.std.proofs.lemmas.List.Sums.{sum_by-cons}
use Rattle.heco_nums.specs.Presets.{slots_of, modulus_of}
use Rattle.heco_nums.proofs.PresetCases.{slots_few}
use Rattle.heco_fields.specs.Formats.{versioned_text}
use Rattle.heco_fields.proofs.Bools.{both_true}
use Rattle.heco_circuit.specs.declared.gate.Gate.{Gate}
use Rattle.heco_circuit.specs.declared.gate.Gate.TheVariants.{Neg, Add, Sub, Mul, Relin, Scale, Shift, Turn, Weigh}
use Rattle.heco_circuit.specs.GateFormat.{gate_text}
use Rattle.heco_circuit.specs.VectorFormat.{vector_text, vectors_text}
use Rattle.heco_circuit.specs.CircuitFormat.{header_of, output_text, gates_text, outputs_text, circuit_text}
use Rattle.heco_circuit.specs.Circuits.{most, is_short}
use Rattle.heco_circuit.specs.Plans.{Plan, is_vector}
use Rattle.heco_circuit.specs.Validity.{is_between}
use Rattle.heco_circuit.proofs.Lengths.{file_long}
use Rattle.heco_rewrites.specs.Wires.{over}
use Rattle.heco_rewrites.proofs.Outputs.{outputs_long}
use Rattle.heco_plainvec.specs.Gathering.{HasRoom}
use Rattle.heco_plainvec.specs.Gathered.{name, gathered_gate, gathered_gates, gathered_vectors, gathered}
use Rattle.heco_plainvec.proofs.Images.{image_is, less_by}

-- ---- the gates
over_long : (f : ℕ → ℕ) (g : Gate) → length (gate_text (over f g)) ≡ length (gate_text g)
over_long f (Neg a) = refl
over_long f (Add a b) = refl
over_long f (Sub a b) = refl
over_long f (Mul a b) = refl
over_long f (Relin a) = refl
over_long f (Scale c a) = refl
over_long f (Shift c a) = refl
over_long f (Turn r a) = refl
over_long f (Weigh v a) = refl

image_long : (c : Plan) (k : ℕ) (g h : Gate) → slice_get c.gates k ≡ Some g → gathered_gate c (length c.inputs + k, g) ≡ Some h → length (gate_text h) ≤ length (gate_text g)
image_long c k g h e q = elim (image_is c (length c.inputs + k) k g h refl e q) [
  | inl r ↦ (let l = over_long (name c) g in let m : length (gate_text h) ≡ length (gate_text (over (name c) g)) = ap (λ z. length (gate_text z)) r.is in omega (arith, l, m))
  | inr r ↦ (let a : length (gate_text h) ≡ 9 = ap (λ z. length (gate_text z)) r.is in let b : length (gate_text g) ≡ 9 = ap (λ z. length (gate_text z)) r.gate in omega (arith, a, b))
]

text_sum : (gs : List Gate) → length (flat_map gate_text gs) ≡ sum_by (λ g. length (gate_text g)) gs
text_sum [] = refl
text_sum (g ∷ gs) = let r = text_sum gs in omega (arith, r, length-append (gate_text g) (flat_map gate_text gs), sum_by-cons (λ (z : Gate). length (gate_text z)) g gs)

gates_long : (c : Plan) → length (flat_map gate_text (gathered_gates c)) ≤ length (flat_map gate_text c.gates)
gates_long c =
    let l = less_by (gathered_gate c) (λ g. length (gate_text g)) (length c.inputs) c.gates (λ k g h e q. image_long c k g h e q) in
    omega (arith, l, text_sum (gathered_gates c), text_sum c.gates)

-- ---- the vectors
vector_long : (v : List ℕ) → length (vector_text v) ≡ 4 * length v
vector_long [] = refl
vector_long (x ∷ v) = let four : length (to_be_bytes w32 x) ≡ 4 = refl in omega (arith, four, vector_long v, length-append (to_be_bytes w32 x) (vector_text v))

vectors_long : (t slots : ℕ) (vs : List (List ℕ)) → slots ≤ 512 → list_all (is_vector t slots) vs ≡ true → length (flat_map vector_text vs) ≤ 2048 * length vs
vectors_long t slots [] l h = omega arith
vectors_long t slots (v ∷ vs) l h =
    let u = both_true (is_vector t slots v) (list_all (is_vector t slots) vs) h in
    let w = eqb-true (length v) slots (both_true (eqb (length v) slots) (list_all (is_between 0 (t - 1)) v) u.0).0 in
    let r = vectors_long t slots vs l u.1 in
    omega (arith, l, w, r, vector_long v, length-append (vector_text v) (flat_map vector_text vs))

vectors_short : (t slots : ℕ) (vs : List (List ℕ)) → slots ≤ 512 → length vs ≤ 256 → list_all (is_vector t slots) vs ≡ true → length (vectors_text vs) ≤ 524292
vectors_short t slots [] l m h = omega arith
vectors_short t slots (v ∷ vs) l m h =
    let four : length (to_be_bytes w32 (length (v ∷ vs))) ≡ 4 = refl in
    let r = vectors_long t slots (v ∷ vs) l h in
    omega (arith, four, m, r, length-append (to_be_bytes w32 (length (v ∷ vs))) (flat_map vector_text (v ∷ vs)))

-- ---- the whole file
pub still_short : (c : Plan) → HasRoom c → length (gathered_vectors c) ≤ 256 → list_all (is_vector (modulus_of c.preset) (slots_of c.preset)) (gathered_vectors c) ≡ true → is_short (gathered c) ≡ true
unfolding gathered is_short
still_short c short few are =
    let d : Plan = gathered c in
    let head : length (versioned_text (codes "HCIR") (header_of c)) ≡ 6 = refl in
    let head' : length (versioned_text (codes "HCIR") (header_of d)) ≡ 6 = refl in
    let g : length (gates_text c.gates) ≡ 4 + length (flat_map gate_text c.gates) = length-append (to_be_bytes w32 (length c.gates)) (flat_map gate_text c.gates) in
    let g' : length (gates_text d.gates) ≡ 4 + length (flat_map gate_text d.gates) = length-append (to_be_bytes w32 (length d.gates)) (flat_map gate_text d.gates) in
    let o : length (outputs_text c.outputs) ≡ 2 + length (flat_map output_text c.outputs) = length-append (to_be_bytes w16 (length c.outputs)) (flat_map output_text c.outputs) in
    let o' : length (outputs_text d.outputs) ≡ 2 + length (flat_map output_text d.outputs) = length-append (to_be_bytes w16 (length d.outputs)) (flat_map output_text d.outputs) in
    let v = vectors_short (modulus_of c.preset) (slots_of c.preset) (gathered_vectors c) (slots_few c.preset) few are in
    let l : length (circuit_text d) ≤ most = omega (arith, short, file_long c, file_long d, head, head', g, g', o, o', v, gates_long c, outputs_long (name c) c.outputs) in
    le-leb (length (circuit_text d)) most l
