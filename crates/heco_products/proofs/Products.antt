-- Values that fit, encrypted inputs and decrypted wires as far as loops have come, and marked wires.
use Rattle.std.proofs.Common.{◌≡◌, ◌≤◌, ◌<◌, ◌+◌, ◌∙◌, ℕ, zero, suc, Bool, true, false, List, [], ◌∷◌, ◌++◌, length, take, drop, map, get_or, inl, refl, sym, ap, subst, arith, append_assoc, drop-cons}
use Rattle.std.specs.Prelude.{All, ◌||◌, replicate, nat_lt, ℤ}
use Rattle.std.proofs.Math.Seq.{take-append_seam}
use Rattle.std.specs.List.{list_all, range_with_len}
use Rattle.std.proofs.Math.Numerals.{add-one}
use Rattle.std.proofs.lemmas.Bool.{and_parts, ltb-true}
use Rattle.std.proofs.lemmas.List.{ext_get_or, get_or-map, get_or-replicate, length-replicate}
use Rattle.std.proofs.lemmas.List.Elements.{All-tail}
use Rattle.std.proofs.lemmas.List.FromFn.{get_or-range_with_len, length-range_with_len, length-map-range_with_len}
use Rattle.heco_ciphertext_files.specs.CiphertextFiles.{AreCiphertexts, IsTwoParts}
use Rattle.heco_circuit.specs.Plans.{Plan as Circuit}
use Rattle.heco_circuit.specs.declared.gate.Output.{Output}
use Rattle.heco_key_files.specs.KeyFiles.{EvalLists}
use Rattle.heco_material.specs.EncFormat.{enc_row}
use Rattle.heco_material.specs.declared.words.EncRow.{EncRow}
use Rattle.heco_nums.specs.declared.preset.Preset.{Preset}
use Rattle.heco_nums.specs.declared.shape.Shape.{Shape}
use Rattle.heco_scheme.specs.Ciphertexts.{IsCiphertext}
use Rattle.heco_texts.specs.Answers.{HaveFit}
use Rattle.heco_products.specs.Decrypting.{output_wires, next_slots, behind_next, decrypted_wires}
use Rattle.heco_run_laws.specs.Results.{is_output_wire, wire_count}
use Rattle.heco_products.specs.Encrypting.{encrypted_inputs, encrypted_input}

-- ---- values that fit

below_each : (t : ℕ) (row : List ℕ) → list_all (λ v. nat_lt v t) row ≡ true → All (λ x. x < t) row
below_each t [] h k d lt = absurd (omega arith)
below_each t (x ∷ row) h zero d lt = ltb-true x t (and_parts (nat_lt x t) (list_all (λ v. nat_lt v t) row) h).0
below_each t (x ∷ row) h (suc k) d lt = below_each t row (and_parts (nat_lt x t) (list_all (λ v. nat_lt v t) row) h).1 k d (omega arith)

pub fit_count : (t : ℕ) (shapes : List Shape) (rows : List (List ℕ)) → HaveFit t shapes rows → length rows ≡ length shapes
fit_count t [] [] h = refl
fit_count t [] (row ∷ rows) h = absurd h
fit_count t (s ∷ shapes) [] h = absurd h
fit_count t (s ∷ shapes) (row ∷ rows) h = ap (λ n. suc n) (fit_count t shapes rows h.2)

pub fit_below : (t : ℕ) (shapes : List Shape) (rows : List (List ℕ)) → HaveFit t shapes rows → All (λ row. All (λ x. x < t) row) rows
fit_below t [] [] h k d lt = absurd (omega arith)
fit_below t [] (row ∷ rows) h k d lt = absurd h
fit_below t (s ∷ shapes) [] h k d lt = absurd h
fit_below t (s ∷ shapes) (row ∷ rows) h zero d lt = below_each t row h.1
fit_below t (s ∷ shapes) (row ∷ rows) h (suc k) d lt = fit_below t shapes rows h.2 k d (omega arith)

pub fit_short : (t slots : ℕ) (shapes : List Shape) (rows : List (List ℕ)) → HaveFit t shapes rows → All (λ s. s.len ≤ slots) shapes → All (λ row. length row ≤ slots) rows
fit_short t slots [] [] h short k d lt = absurd (omega arith)
fit_short t slots [] (row ∷ rows) h short k d lt = absurd h
fit_short t slots (s ∷ shapes) [] h short k d lt = absurd h
fit_short t slots (s ∷ shapes) (row ∷ rows) h short zero d lt = let le : s.len ≤ slots = short 0 s (omega arith) in omega (arith, h.0, le)
fit_short t slots (s ∷ shapes) (row ∷ rows) h short (suc k) d lt = fit_short t slots shapes rows h.2 (All-tail (λ (x : Shape). x.len ≤ slots) s shapes short) k d (omega arith)

-- ---- encrypted inputs behind each other

abbrev pub no_row : EncRow
no_row = enc_row [] [] []

encrypted_step : (p : Preset) (key : EvalLists) (rows : List EncRow) (inputs : List (List ℕ)) (i : ℕ) (v : List ℕ) → i < length rows → i < length inputs
    → encrypted_inputs p key (drop i rows) (drop i inputs) ≡ encrypted_input p key (get_or rows i no_row) (get_or inputs i v) ∷ encrypted_inputs p key (drop (i + 1) rows) (drop (i + 1) inputs)
encrypted_step p key rows inputs i v lr li =
    ap (λ x. encrypted_inputs p key x (drop i inputs)) (drop-cons rows i no_row lr)
    ∙ ap (λ y. encrypted_inputs p key (get_or rows i no_row ∷ drop (suc i) rows) y) (drop-cons inputs i v li)
    ∙ ap (λ n. encrypted_input p key (get_or rows i no_row) (get_or inputs i v) ∷ encrypted_inputs p key (drop n rows) (drop n inputs)) (sym (add-one i))

-- one more of them
pub encrypted_push : (p : Preset) (key : EvalLists) (rows : List EncRow) (inputs : List (List ℕ)) (i : ℕ) (v : List ℕ) (cs : List (List (List ℕ))) (c : List (List ℕ)) (whole : List (List (List ℕ))) → i < length rows → i < length inputs
    → c ≡ encrypted_input p key (get_or rows i no_row) (get_or inputs i v) → cs ++ encrypted_inputs p key (drop i rows) (drop i inputs) ≡ whole
    → (cs ++ c ∷ []) ++ encrypted_inputs p key (drop (i + 1) rows) (drop (i + 1) inputs) ≡ whole
encrypted_push p key rows inputs i v cs c whole lr li is total =
    append_assoc cs (c ∷ []) (encrypted_inputs p key (drop (i + 1) rows) (drop (i + 1) inputs))
    ∙ ap (λ x. cs ++ x ∷ encrypted_inputs p key (drop (i + 1) rows) (drop (i + 1) inputs)) is
    ∙ ap (λ (xs : List (List (List ℕ))). cs ++ xs) (sym (encrypted_step p key rows inputs i v lr li)) ∙ total

-- ---- decrypted wires behind each other

wires_step : (p : Preset) (e : ℕ) (s : List ℤ) (wires : List Bool) (i : ℕ) (left : List (List (List ℕ))) → i < length wires
    → decrypted_wires p e s (drop i wires) left ≡ next_slots p e s (get_or wires i false) left ∷ decrypted_wires p e s (drop (i + 1) wires) (behind_next (get_or wires i false) left)
wires_step p e s wires i left lt =
    ap (λ w. decrypted_wires p e s w left) (drop-cons wires i false lt)
    ∙ ap (λ n. next_slots p e s (get_or wires i false) left ∷ decrypted_wires p e s (drop n wires) (behind_next (get_or wires i false) left)) (sym (add-one i))

-- one more of them
pub wires_push : (p : Preset) (e : ℕ) (s : List ℤ) (wires : List Bool) (i : ℕ) (left : List (List (List ℕ))) (rows : List (List ℕ)) (row : List ℕ) (whole : List (List ℕ)) → i < length wires
    → row ≡ next_slots p e s (get_or wires i false) left → rows ++ decrypted_wires p e s (drop i wires) left ≡ whole
    → (rows ++ row ∷ []) ++ decrypted_wires p e s (drop (i + 1) wires) (behind_next (get_or wires i false) left) ≡ whole
wires_push p e s wires i left rows row whole lt is total =
    append_assoc rows (row ∷ []) (decrypted_wires p e s (drop (i + 1) wires) (behind_next (get_or wires i false) left))
    ∙ ap (λ x. rows ++ x ∷ decrypted_wires p e s (drop (i + 1) wires) (behind_next (get_or wires i false) left)) is
    ∙ ap (λ (xs : List (List ℕ)). rows ++ xs) (sym (wires_step p e s wires i left lt)) ∙ total

pub behind_all : (P : List (List ℕ) → Type 0) (wire : Bool) (left : List (List (List ℕ))) → All P left → All P (behind_next wire left)
behind_all P false left h = h
behind_all P true [] h = h
behind_all P true (c ∷ left) h = All-tail P c left h

-- ---- marked wires

pub marked_is : (c : Circuit) (wires : List Bool) → length wires ≡ wire_count c → ((w : ℕ) → w < wire_count c → get_or wires w false ≡ is_output_wire c.outputs w) → wires ≡ output_wires c
unfolding output_wires
marked_is c wires long each =
    ext_get_or false wires (map (is_output_wire c.outputs) (range_with_len 0 (wire_count c))) (long ∙ sym (length-map-range_with_len (is_output_wire c.outputs) 0 (wire_count c)))
    (λ w inside.
    let lt : w < wire_count c = omega (arith, long) in
    let from : 0 + w ≡ w = omega arith in
    each w lt
    ∙ sym (get_or-map (is_output_wire c.outputs) (range_with_len 0 (wire_count c)) w 0 false (omega (arith, length-range_with_len 0 (wire_count c))) ∙ ap (is_output_wire c.outputs) (get_or-range_with_len 0 (wire_count c) w 0 lt ∙ from)))

-- the list that a vector of so many wires holds, once the outputs' wires are marked in it
pub marked_list : (c : Circuit) (new old items : List Bool) (len : ℕ) (outputs : List Output) → length new ≡ length old → old ≡ replicate (wire_count c) false → len ≡ wire_count c → outputs ≡ c.outputs
    → ((w : ℕ) → w < length old → get_or new w false ≡ (get_or old w false || is_output_wire outputs w)) → take len (new ++ drop (length new) items) ≡ output_wires c
marked_list c new old items len outputs kept clear long same each =
    let old_long : length old ≡ wire_count c = ap length clear ∙ length-replicate (wire_count c) false in
    let new_long : len ≡ length new = long ∙ sym (kept ∙ old_long) in
    ap (λ n. take n (new ++ drop (length new) items)) new_long ∙ take-append_seam new (drop (length new) items)
    ∙ marked_is c new (kept ∙ old_long)
    (λ w lt.
    let none : get_or old w false ≡ false = ap (λ o. get_or o w false) clear ∙ get_or-replicate (wire_count c) w false false lt in
    each w (subst (λ n. w < n) (sym old_long) lt) ∙ ap (λ b. b || is_output_wire outputs w) none ∙ ap (λ o. is_output_wire o w) same)

pub marked_long : (c : Circuit) → length (output_wires c) ≡ wire_count c
unfolding output_wires
marked_long c = length-map-range_with_len (is_output_wire c.outputs) 0 (wire_count c)

-- ---- ciphertexts of a result

two_parts : (n : ℕ) (c : List (List ℕ)) → IsTwoParts n c → IsCiphertext n c
two_parts n c h = record {
  places = λ i lt. (h.parts i [] lt).long;
  count = inl h.two;
}

pub are_ciphertexts : (n count : ℕ) (cs : List (List (List ℕ))) → AreCiphertexts n count cs → All (IsCiphertext n) cs
are_ciphertexts n count cs h k d lt = two_parts n (get_or cs k d) (h.each k d lt)
