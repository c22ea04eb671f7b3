-- The plain vectors of a valid circuit are N numbers below t each.
use Rattle.std.proofs.Common.{◌≡◌, ◌∙◌, ℕ, ◌-◌, ◌<◌, ◌≤◌, true, ◌&&◌, ◌==◌, nat_le, List, [], ◌∷◌, length, sym, ap, subst, arith}
use Rattle.std.specs.Prelude.{All}
use Rattle.std.specs.List.{list_all}
use Rattle.std.proofs.lemmas.Bool.{and_parts, eqb-true, leb-true}
use Rattle.std.proofs.lemmas.List.Elements.{All-nil, All-cons}
use Rattle.heco_nums.specs.Presets.{modulus_of, slots_of}
use Rattle.heco_nums.specs.declared.preset.Preset.{Preset}
use Rattle.heco_nums.proofs.PresetFacts.{facts}
use Rattle.heco_circuit.specs.Circuits.{IsCircuit}
use Rattle.heco_circuit.specs.Plans.{Plan, is_vector, are_inputs, are_vectors, are_gates, are_outputs}
use Rattle.heco_circuit.specs.Validity.{is_between}

abbrev pub IsWhole : ℕ → ℕ → List ℕ → Type 0
IsWhole t slots v = (length v ≡ slots) × All (λ x. x < t) v

numbers_below : (t : ℕ) (v : List ℕ) → 0 < t → list_all (is_between 0 (t - 1)) v ≡ true → All (λ x. x < t) v
numbers_below t [] pos h = All-nil (λ (x : ℕ). x < t)
numbers_below t (x ∷ v) pos h =
    let both = and_parts (is_between 0 (t - 1) x) (list_all (is_between 0 (t - 1)) v) h in
    let high : x ≤ t - 1 = leb-true x (t - 1) (and_parts (nat_le 0 x) (nat_le x (t - 1)) both.0).1 in
    All-cons (λ (x : ℕ). x < t) x v (omega arith) (numbers_below t v pos both.1)

pub whole : (t slots : ℕ) (v : List ℕ) → 0 < t → is_vector t slots v ≡ true → IsWhole t slots v
whole t slots v pos h =
    let both = and_parts (length v == slots) (list_all (is_between 0 (t - 1)) v) h in
    (eqb-true (length v) slots both.0, numbers_below t v pos both.1)

each_whole : (t slots : ℕ) (vs : List (List ℕ)) → 0 < t → list_all (is_vector t slots) vs ≡ true → All (IsWhole t slots) vs
each_whole t slots [] pos h = All-nil (IsWhole t slots)
each_whole t slots (v ∷ vs) pos h =
    let both = and_parts (is_vector t slots v) (list_all (is_vector t slots) vs) h in
    All-cons (IsWhole t slots) v vs (whole t slots v pos both.0) (each_whole t slots vs pos both.1)

formed_vectors : (c : Plan) → IsCircuit c → list_all (is_vector (modulus_of c.preset) (slots_of c.preset)) c.vectors ≡ true
formed_vectors c valid =
    let behind = and_parts (is_between 1 5 c.preset) (are_inputs c && (are_vectors c && (are_gates c && are_outputs c))) valid.0 in
    let rest = and_parts (are_inputs c) (are_vectors c && (are_gates c && are_outputs c)) behind.1 in
    let vectors = and_parts (are_vectors c) (are_gates c && are_outputs c) rest.1 in
    (and_parts (nat_le (length c.vectors) 256) (list_all (is_vector (modulus_of c.preset) (slots_of c.preset)) c.vectors) vectors.0).1

-- they pass the test by the numbers of the preset
pub circuit_formed : (p : Preset) (c : Plan) → p.id ≡ c.preset → IsCircuit c → list_all (is_vector p.t p.slots) c.vectors ≡ true
circuit_formed p c id valid =
    let t : modulus_of c.preset ≡ p.t = ap modulus_of (sym id) ∙ sym p.row.4 in
    let n : slots_of c.preset ≡ p.slots = ap slots_of (sym id) ∙ sym p.row.3 in
    subst (λ (x : ℕ). list_all (is_vector p.t x) c.vectors ≡ true) n (subst (λ (x : ℕ). list_all (is_vector x (slots_of c.preset)) c.vectors ≡ true) t (formed_vectors c valid))

pub circuit_vectors : (p : Preset) (c : Plan) → p.id ≡ c.preset → IsCircuit c → All (IsWhole p.t p.slots) c.vectors
circuit_vectors p c id valid = each_whole p.t p.slots c.vectors (facts p).t_pos (circuit_formed p c id valid)
