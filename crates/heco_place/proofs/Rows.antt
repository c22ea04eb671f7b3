-- Values that fit inputs no longer than the slots are rows.
use Rattle.std.proofs.Common.{◌≡◌, ℕ, zero, suc, ◌<◌, ◌≤◌, true, List, [], ◌∷◌, length, refl, ap, get_or, nat_lt, nat_le, arith}
use Rattle.std.specs.Prelude.{All}
use Rattle.std.specs.List.{list_all}
use Rattle.std.proofs.lemmas.Bool.{and_parts, leb-true, ltb-true}
use Rattle.std.proofs.lemmas.List.Elements.{All-head, All-tail, All-nil, All-cons}
use Rattle.heco_nums.specs.Presets.{modulus_of, slots_of}
use Rattle.heco_nums.specs.declared.shape.Shape.{Shape}
use Rattle.heco_nums.specs.Runs.{all_along}
use Rattle.heco_circuit.specs.Plans.{push, is_input, is_name}
use Rattle.heco_circuit.specs.Validity.{is_between}
use Rattle.heco_texts.specs.Answers.{HaveFit}
use Rattle.heco_nums.proofs.PresetCases.{modulus_pos}
use Rattle.heco_place.specs.inside.Carried.{AreRows}

abbrev AreShort : ℕ → List Shape → Type 0
AreShort slots shapes = All (λ (s : Shape). s.len ≤ slots) shapes

-- the inputs of a valid circuit have at most as many elements as there are slots
short_inputs : (slots : ℕ) (before shapes : List Shape) → all_along (is_input slots) push before shapes ≡ true → AreShort slots shapes
short_inputs slots before [] h = All-nil (λ (s : Shape). s.len ≤ slots)
short_inputs slots before (s ∷ shapes) h =
    let both = and_parts (is_input slots before s) (all_along (is_input slots) push (push before s) shapes) h in
    let here = and_parts (is_name before [] s.name) (is_between 1 slots s.len) both.0 in
    let range = and_parts (nat_le 1 s.len) (nat_le s.len slots) here.1 in
    All-cons (λ (s : Shape). s.len ≤ slots) s shapes (leb-true s.len slots range.1) (short_inputs slots (push before s) shapes both.1)

row_below : (t j : ℕ) (row : List ℕ) → 0 < t → list_all (λ v. nat_lt v t) row ≡ true → get_or row j 0 < t
row_below t j [] p h = p
row_below t zero (x ∷ row) p h = ltb-true x t (and_parts (nat_lt x t) (list_all (λ v. nat_lt v t) row) h).0
row_below t (suc j) (x ∷ row) p h = row_below t j row p (and_parts (nat_lt x t) (list_all (λ v. nat_lt v t) row) h).1

fit_count : (t : ℕ) (shapes : List Shape) (rows : List (List ℕ)) → HaveFit t shapes rows → length rows ≡ length shapes
fit_count t [] [] h = refl
fit_count t [] (row ∷ rows) h = absurd h
fit_count t (s ∷ shapes) [] h = absurd h
fit_count t (s ∷ shapes) (row ∷ rows) h = ap (λ n. suc n) (fit_count t shapes rows h.2)

fit_short : (t slots a : ℕ) (shapes : List Shape) (rows : List (List ℕ)) → AreShort slots shapes → HaveFit t shapes rows → length (get_or rows a []) ≤ slots
fit_short t slots a [] [] short h = omega arith
fit_short t slots a [] (row ∷ rows) short h = absurd h
fit_short t slots a (s ∷ shapes) [] short h = absurd h
fit_short t slots zero (s ∷ shapes) (row ∷ rows) short h = omega (arith, All-head (λ (s : Shape). s.len ≤ slots) s shapes short, h.0)
fit_short t slots (suc a) (s ∷ shapes) (row ∷ rows) short h = fit_short t slots a shapes rows (All-tail (λ (s : Shape). s.len ≤ slots) s shapes short) h.2

fit_below : (t a j : ℕ) (shapes : List Shape) (rows : List (List ℕ)) → 0 < t → HaveFit t shapes rows → get_or (get_or rows a []) j 0 < t
fit_below t a j [] [] p h = p
fit_below t a j [] (row ∷ rows) p h = absurd h
fit_below t a j (s ∷ shapes) [] p h = absurd h
fit_below t zero j (s ∷ shapes) (row ∷ rows) p h = row_below t j row p h.1
fit_below t (suc a) j (s ∷ shapes) (row ∷ rows) p h = fit_below t a j shapes rows p h.2

pub fitting_rows : (id : ℕ) (inputs : List Shape) (rows : List (List ℕ)) → all_along (is_input (slots_of id)) push [] inputs ≡ true → HaveFit (modulus_of id) inputs rows → AreRows id inputs rows
fitting_rows id inputs rows valid fit = record {
  count = fit_count (modulus_of id) inputs rows fit;
  short = λ a. fit_short (modulus_of id) (slots_of id) a inputs rows (short_inputs (slots_of id) [] inputs valid) fit;
  below = λ a j. fit_below (modulus_of id) a j inputs rows (modulus_pos id) fit;
}
