-- The wires of inputs: N numbers below t each, for rows that fit.
use Rattle.std.proofs.Common.{◌≡◌, ℕ, zero, suc, ◌-◌, ◌<◌, ◌≤◌, List, [], ◌∷◌, length, map, refl, ap, sym, ◌∙◌, arith, true, ltb, leb, length-append}
use Rattle.std.specs.Prelude.{All, replicate, nat_lt}
use Rattle.std.specs.List.{list_all}
use Rattle.std.proofs.lemmas.Bool.{ltb-true, leb-true}
use Rattle.std.proofs.lemmas.List.{length-map, length-replicate}
use Rattle.std.proofs.lemmas.List.Elements.{All-append, All-replicate}
use Rattle.heco_nums.specs.Presets.{modulus_of, slots_of}
use Rattle.heco_nums.specs.declared.shape.Shape.{Shape}
use Rattle.heco_nums.specs.Runs.{all_along}
use Rattle.heco_fields.proofs.Bools.{both_true}
use Rattle.heco_circuit.specs.Plans.{Plan, is_input, is_name, push}
use Rattle.heco_circuit.specs.Validity.{is_between}
use Rattle.heco_circuit.proofs.Lengths.{length-input_parts, length-fresh_bounds}
use Rattle.heco_meaning.specs.Meanings.{wire_at, filled}
use Rattle.heco_texts.specs.Answers.{HaveFit}
use Rattle.heco_rewrites.specs.Wires.{Even}
use Rattle.heco_rewrites.specs.Full.{IsFull}
use Rattle.heco_peep.proofs.Whole.{base}

pub base_even : (id : ℕ) (c : Plan) (rows : List (List ℕ)) → length rows ≡ length c.inputs → Even (base id c rows)
base_even id c rows e = record {
  bounds = length-fresh_bounds id c.inputs ∙ sym (length-input_parts c.inputs);
  slots = length-map rows (filled (slots_of id)) ∙ e ∙ sym (length-input_parts c.inputs);
}

pub rows_long : (t : ℕ) (inputs : List Shape) (rows : List (List ℕ)) → HaveFit t inputs rows → length rows ≡ length inputs
rows_long t [] [] h = refl
rows_long t [] (row ∷ rows) h = absurd h
rows_long t (s ∷ inputs) [] h = absurd h
rows_long t (s ∷ inputs) (row ∷ rows) h = ap suc (rows_long t inputs rows h.2)

values_below : (t : ℕ) (row : List ℕ) → list_all (λ v. nat_lt v t) row ≡ true → All (λ v. v < t) row
values_below t [] h k d l = absurd (omega (arith, l))
values_below t (v ∷ row) h zero d l = ltb-true v t (both_true (ltb v t) (list_all (λ v. nat_lt v t) row) h).0
values_below t (v ∷ row) h (suc k) d l = values_below t row (both_true (ltb v t) (list_all (λ v. nat_lt v t) row) h).1 k d (omega (arith, l))

filled_full : (id : ℕ) (row : List ℕ) → 0 < modulus_of id → length row ≤ slots_of id → All (λ v. v < modulus_of id) row → IsFull id (filled (slots_of id) row)
filled_full id row some short below = record {
  long = (let a = length-append row (replicate (slots_of id - length row) 0) in let b = length-replicate {A = ℕ} (slots_of id - length row) 0 in omega (arith, a, b, short));
  below = All-append (λ v. v < modulus_of id) row (replicate (slots_of id - length row) 0) below (All-replicate (λ v. v < modulus_of id) (slots_of id - length row) 0 some);
}

-- rows that fit fill the wires of inputs
pub rows_full : (id : ℕ) (earlier inputs : List Shape) (rows : List (List ℕ)) → 0 < modulus_of id → all_along (is_input (slots_of id)) push earlier inputs ≡ true → HaveFit (modulus_of id) inputs rows
    → (a : ℕ) → a < length inputs → IsFull id (wire_at (map (filled (slots_of id)) rows) a)
rows_full id earlier [] rows some v h a l = absurd (omega (arith, l))
rows_full id earlier (s ∷ inputs) [] some v h a l = absurd h
rows_full id earlier (s ∷ inputs) (row ∷ rows) some v h zero l =
    let u = both_true (is_input (slots_of id) earlier s) (all_along (is_input (slots_of id)) push (push earlier s) inputs) v in
    let w = both_true (is_name earlier [] s.name) (is_between 1 (slots_of id) s.len) u.0 in
    let k = leb-true s.len (slots_of id) (both_true (leb 1 s.len) (leb s.len (slots_of id)) w.1).1 in
    let e = h.0 in
    filled_full id row some (omega (arith, k, e)) (values_below (modulus_of id) row h.1)
rows_full id earlier (s ∷ inputs) (row ∷ rows) some v h (suc a) l =
    rows_full id (push earlier s) inputs rows some (both_true (is_input (slots_of id) earlier s) (all_along (is_input (slots_of id)) push (push earlier s) inputs) v).1 h.2 a (omega (arith, l))

-- so do rows of nothing
abbrev pub no_rows : List Shape → List (List ℕ)
no_rows inputs = map (λ s. []) inputs

pub blank_full : (id : ℕ) (inputs : List Shape) → 0 < modulus_of id → (a : ℕ) → a < length inputs → IsFull id (wire_at (map (filled (slots_of id)) (no_rows inputs)) a)
blank_full id [] some a l = absurd (omega (arith, l))
blank_full id (s ∷ inputs) some zero l = filled_full id [] some (omega arith) (λ k d h. absurd (omega (arith, h)))
blank_full id (s ∷ inputs) some (suc a) l = blank_full id inputs some a (omega (arith, l))
