-- What bounds and constants are small enough for.
use Rattle.std.proofs.Common.{◌≡◌, ℕ, ◌≤◌, ◌<◌, ◌-◌, ◌^◌, length, true, ◌&&◌, List, [], ◌∷◌, refl, arith, ltb, leb}
use Rattle.std.specs.Prelude.{IsTrue}
use Rattle.std.specs.List.{list_all}
use Rattle.std.proofs.lemmas.Bool.{leb-true, lt-ltb}
use Rattle.heco_nums.specs.Presets.{modulus_of, slots_of}
use Rattle.heco_nums.proofs.PresetCases.{by_preset, modulus_pos}
use Rattle.heco_noise.specs.Rows.{IsQuiet}
use Rattle.heco_nums.specs.Runs.{all_along}
use Rattle.heco_fields.proofs.Bools.{both_true, and_true}
use Rattle.heco_circuit.specs.declared.gate.Gate.{Gate}
use Rattle.heco_circuit.specs.declared.gate.Gate.TheVariants.{Neg, Add, Sub, Mul, Relin, Scale, Shift, Turn, Weigh}
use Rattle.heco_circuit.specs.Validity.{is_between, is_wire, is_gate, with_gate}
use Rattle.heco_circuit.specs.Plans.{Plan, input_parts, is_vector, are_inputs, are_vectors, are_gates, are_outputs, is_formed}
use Rattle.heco_circuit.specs.Bounds.{fresh_of, is_below}

pub fresh_quiet : (id : ℕ) → 1 ≤ id → id ≤ 5 → IsQuiet (fresh_of id)
fresh_quiet = by_preset (λ id. IsQuiet (fresh_of id)) (omega arith) (omega arith) (omega arith) (omega arith) (omega arith)

below : (t c : ℕ) → 1 ≤ t → IsTrue (is_between 1 (t - 1) c) → ltb c t ≡ true
below t c pos h =
    let le : c ≤ t - 1 = leb-true c (t - 1) (both_true (leb 1 c) (leb c (t - 1)) h).1 in
    let lt : c < t = omega arith in
    lt-ltb c t lt

gate_below : (t slots vectors : ℕ) (parts : List ℕ) → 1 ≤ t → (g : Gate) → IsTrue (is_gate t slots vectors parts g) → is_below t g ≡ true
gate_below t slots vectors parts pos (Scale c a) h = below t c pos (both_true (is_between 1 (t - 1) c) (is_wire parts a) h).0
gate_below t slots vectors parts pos (Neg a) h = refl
gate_below t slots vectors parts pos (Add a b) h = refl
gate_below t slots vectors parts pos (Sub a b) h = refl
gate_below t slots vectors parts pos (Mul a b) h = refl
gate_below t slots vectors parts pos (Relin a) h = refl
gate_below t slots vectors parts pos (Shift c a) h = refl
gate_below t slots vectors parts pos (Turn r a) h = refl
gate_below t slots vectors parts pos (Weigh v a) h = refl

pub gates_below : (t slots vectors : ℕ) (parts : List ℕ) → 1 ≤ t → (gs : List Gate) → IsTrue (all_along (is_gate t slots vectors) with_gate parts gs) → IsTrue (list_all (is_below t) gs)
gates_below t slots vectors parts pos [] h = refl
gates_below t slots vectors parts pos (g ∷ gs) h =
    let u = both_true (is_gate t slots vectors parts g) (all_along (is_gate t slots vectors) with_gate (with_gate parts g) gs) h in
    and_true (is_below t g) (list_all (is_below t) gs) (gate_below t slots vectors parts pos g u.0) (gates_below t slots vectors (with_gate parts g) pos gs u.1)

-- a formed circuit has constants below t, vectors of N numbers below t, and few gates
pub record Formed (p : Plan) : Type 0 where
  pub constants : IsTrue (list_all (is_below (modulus_of p.preset)) p.gates)
  pub vectors : IsTrue (list_all (is_vector (modulus_of p.preset) (slots_of p.preset)) p.vectors)
  pub few : length p.gates < 2 ^ 25

pub formed_gates : (p : Plan) → IsTrue (is_formed p) → Formed p
formed_gates p h =
    let a = both_true (is_between 1 5 p.preset) (are_inputs p && (are_vectors p && (are_gates p && are_outputs p))) h in
    let b = both_true (are_inputs p) (are_vectors p && (are_gates p && are_outputs p)) a.1 in
    let d = both_true (are_vectors p) (are_gates p && are_outputs p) b.1 in
    let c = both_true (are_gates p) (are_outputs p) d.1 in
    let v = both_true (leb (length p.vectors) 256) (list_all (is_vector (modulus_of p.preset) (slots_of p.preset)) p.vectors) d.0 in
    let g = both_true _ (all_along (is_gate (modulus_of p.preset) (slots_of p.preset) (length p.vectors)) with_gate (input_parts p.inputs) p.gates) c.0 in
    let le = leb-true _ _ g.0 in
    record { constants = gates_below (modulus_of p.preset) (slots_of p.preset) (length p.vectors) (input_parts p.inputs) (modulus_pos p.preset) p.gates g.1; vectors = v.1; few = omega arith }
