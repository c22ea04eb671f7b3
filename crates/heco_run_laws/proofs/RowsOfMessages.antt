-- The rows of the messages of all wires: what each gate does to a message it does to each row.
use Rattle.std.proofs.Common.{◌≡◌, ◌∙◌, ℕ, suc, ◌+◌, ◌-◌, ◌*◌, ◌%◌, ◌<◌, ◌≤◌, true, List, [], ◌∷◌, ◌++◌, nat_le, nat_lt, length, map, get_or, replicate, refl, sym, ap, ap₂, inl, inr, arith}
use Rattle.std.specs.Prelude.{All}
use Rattle.std.proofs.lemmas.Bool.{and_parts, leb-true, ltb-true}
use Rattle.std.proofs.lemmas.List.{get_or-map, length_push, length-append, length-replicate}
use Rattle.std.proofs.lemmas.List.Elements.{All-append, All-replicate, All-head, All-tail, All-get_or}
use Rattle.heco_nums.specs.Presets.{modulus_of, slots_of}
use Rattle.heco_nums.specs.declared.preset.Preset.{Preset}
use Rattle.heco_nums.proofs.PresetFacts.{facts}
use Rattle.heco_nums.specs.Runs.{along, all_along}
use Rattle.heco_circuit.specs.Plans.{Plan, input_parts}
use Rattle.heco_circuit.specs.Validity.{is_wire, has_parts, is_between, is_gate, parts_of, with_gate}
use Rattle.heco_circuit.specs.declared.gate.Gate.{Gate}
use Rattle.heco_circuit.specs.declared.gate.Gate.TheVariants.{Neg, Add, Sub, Mul, Relin, Scale, Shift, Turn, Weigh}
use Rattle.heco_circuit.proofs.Lengths.{length-input_parts}
use Rattle.heco_meaning.specs.Meanings.{sums, differences, products, turned, filled, wire_of, with_wire, wires_of}
use Rattle.heco_slots.specs.Messages as message
use Rattle.heco_slots.specs.Rows.{first_row, second_row, row_of, encoded_two}
use Rattle.heco_run_laws.proofs.RowLists.{row_sum, row_difference, row_product, row_opposite, row_multiple, row_raised, row_turned, row_weighed}
use Rattle.heco_slots.proofs.BothRows.{first_comes_back, second_comes_back}
use Rattle.heco_run_laws.specs.Messages.{message_by, with_message, messages_along}
use Rattle.heco_run_laws.specs.Carried.{FitsRow, IsRowExponent, MessagesMeanTheirRows, RowsAreIndependent, two_row_messages}
use Rattle.heco_run_laws.proofs.CircuitVectors.{IsWhole, circuit_vectors}
use Rattle.heco_run_laws.proofs.Wires.{circuit_gates, is_inside}

map_pushed : {A B : Type 0} (f : A → B) (xs : List A) (y : A) → map f (xs ++ y ∷ []) ≡ map f xs ++ f y ∷ []
map_pushed f [] y = refl
map_pushed f (x ∷ xs) y = ap (λ ys. f x ∷ ys) (map_pushed f xs y)

-- ---- the two rows

odd_second : (p : Preset) → second_row p % 2 ≡ 1
odd_second p = minus_one_odd p.n (facts p).n_pos
  where
    minus_one_odd : (n : ℕ) → 0 < n → (2 * n - 1) % 2 ≡ 1
    minus_one_odd n h = omega arith

row_odd : (p : Preset) (e : ℕ) → IsRowExponent p e → e % 2 ≡ 1
row_odd p e (inl h) = rw h refl
row_odd p e (inr h) = rw h (odd_second p)

-- a plain vector comes back from either
row_back : (p : Preset) (e : ℕ) → IsRowExponent p e → (v : List ℕ) → IsWhole p.t p.slots v → row_of p e (encoded_two p v v) ≡ v
row_back p e (inl h) v is = rw h (first_comes_back p v v is.0 is.1)
row_back p e (inr h) v is = rw h (second_comes_back p v v is.0 is.1)

-- so it weighs both rows
pub vector_weighs : (p : Preset) (e : ℕ) (v m : List ℕ) → IsRowExponent p e → length v ≡ p.slots → All (λ x. x < p.t) v → row_of p e (message.weighed p v m) ≡ products p.t v (row_of p e m)
vector_weighs p e v m row long below = row_weighed p e v m (row_odd p e row) (row_back p e row v (long, below))

-- ---- the gates

module _ (p : Preset) (e : ℕ) (row : IsRowExponent p e) (vectors : List (List ℕ)) (are : All (IsWhole p.t p.slots) vectors) where
  odd : e % 2 ≡ 1
  odd = row_odd p e row

  abbrev rows : List (List ℕ) → List (List ℕ)
  rows ms = map (row_of p e) ms

  row_here : (ps : List ℕ) (ms : List (List ℕ)) (a : ℕ) → length ms ≡ length ps → is_wire ps a ≡ true → get_or (rows ms) a [] ≡ row_of p e (get_or ms a [])
  row_here ps ms a many h = let l : a < length ps = is_inside ps a h in get_or-map (row_of p e) ms a [] [] (omega arith)

  gate_row : (ps : List ℕ) (ms : List (List ℕ)) → length ms ≡ length ps → (g : Gate) → is_gate p.t p.slots (length vectors) ps g ≡ true → row_of p e (message_by p vectors ms g) ≡ wire_of p.t vectors (rows ms) g
  gate_row ps ms many (Neg a) h = row_opposite p e (get_or ms a []) ∙ ap (map (λ x. (p.t - x) % p.t)) (sym (row_here ps ms a many h))
  gate_row ps ms many (Add a b) h =
      let both = and_parts (is_wire ps a) (is_wire ps b) h in
      row_sum p e (get_or ms a []) (get_or ms b []) ∙ ap₂ (sums p.t) (sym (row_here ps ms a many both.0)) (sym (row_here ps ms b many both.1))
  gate_row ps ms many (Sub a b) h =
      let both = and_parts (is_wire ps a) (is_wire ps b) h in
      row_difference p e (get_or ms a []) (get_or ms b []) ∙ ap₂ (differences p.t) (sym (row_here ps ms a many both.0)) (sym (row_here ps ms b many both.1))
  gate_row ps ms many (Mul a b) h =
      let both = and_parts (has_parts 2 ps a) (has_parts 2 ps b) h in
      row_product p e (get_or ms a []) (get_or ms b []) odd ∙ ap₂ (products p.t) (sym (row_here ps ms a many (and_parts _ _ both.0).0)) (sym (row_here ps ms b many (and_parts _ _ both.1).0))
  gate_row ps ms many (Relin a) h = sym (row_here ps ms a many (and_parts _ _ h).0)
  gate_row ps ms many (Scale c a) h = row_multiple p e c (get_or ms a []) ∙ ap (map (λ x. (c * x) % p.t)) (sym (row_here ps ms a many (and_parts (is_between 1 (p.t - 1) c) (is_wire ps a) h).1))
  gate_row ps ms many (Shift c a) h = row_raised p e c (get_or ms a []) ∙ ap (map (λ x. (x + c) % p.t)) (sym (row_here ps ms a many (and_parts (is_between 0 (p.t - 1) c) (is_wire ps a) h).1))
  gate_row ps ms many (Turn r a) h =
      let both = and_parts (is_between 1 (p.slots - 1) r) (has_parts 2 ps a) h in
      let high : r ≤ p.slots - 1 = leb-true r (p.slots - 1) (and_parts (nat_le 1 r) (nat_le r (p.slots - 1)) both.0).1 in
      row_turned p e r (get_or ms a []) odd (omega arith) ∙ ap (turned r) (sym (row_here ps ms a many (and_parts _ _ both.1).0))
  gate_row ps ms many (Weigh v a) h =
      let both = and_parts (nat_lt v (length vectors)) (is_wire ps a) h in
      let here : IsWhole p.t p.slots (get_or vectors v []) = All-get_or (IsWhole p.t p.slots) vectors v [] (ltb-true v (length vectors) both.0) are in
      vector_weighs p e (get_or vectors v []) (get_or ms a []) row here.0 here.1 ∙ ap (products p.t (get_or vectors v [])) (sym (row_here ps ms a many both.1))

  gates_row : (gates : List Gate) (ps : List ℕ) (ms : List (List ℕ)) → length ms ≡ length ps → all_along (is_gate p.t p.slots (length vectors)) with_gate ps gates ≡ true
      → rows (along (with_message p vectors) ms gates) ≡ along (with_wire p.t vectors) (rows ms) gates
  gates_row [] ps ms many valid = refl
  gates_row (g ∷ gates) ps ms many valid =
      let both = and_parts (is_gate p.t p.slots (length vectors) ps g) (all_along (is_gate p.t p.slots (length vectors)) with_gate (with_gate ps g) gates) valid in
      gates_row gates (with_gate ps g) (with_message p vectors ms g) (omega (arith, many, length_push ms (message_by p vectors ms g), length_push ps (parts_of ps g))) both.1
      ∙ ap (λ vs. along (with_wire p.t vectors) vs gates) (map_pushed (row_of p e) ms (message_by p vectors ms g) ∙ ap (λ v. rows ms ++ v ∷ []) (gate_row ps ms many g both.0))

pub messages_mean : MessagesMeanTheirRows
unfolding messages_along
messages_mean p e c messages row id valid many = gates_row p e row c.vectors (circuit_vectors p c id valid) c.gates (input_parts c.inputs) messages (many ∙ sym (length-input_parts c.inputs)) (circuit_gates p c id valid)

-- ---- the circuit's meaning

pub wires_mean : (p : Preset) (c : Plan) (vs : List (List ℕ)) → p.id ≡ c.preset → along (with_wire p.t c.vectors) (map (filled p.slots) vs) c.gates ≡ wires_of c vs
wires_mean p c vs id =
    let t : p.t ≡ modulus_of c.preset = p.row.4 ∙ ap modulus_of id in
    let n : p.slots ≡ slots_of c.preset = p.row.3 ∙ ap slots_of id in
    ap (λ x. along (with_wire x c.vectors) (map (filled p.slots) vs) c.gates) t ∙ ap (λ x. along (with_wire (modulus_of c.preset) c.vectors) (map (filled x) vs) c.gates) n

-- ---- two rows of values

module _ (p : Preset) where
  pub length-filled : (v : List ℕ) → FitsRow p v → length (filled p.slots v) ≡ p.slots
  length-filled v h = omega (arith, h.0, length-append v (replicate (p.slots - length v) 0), length-replicate {A = ℕ} (p.slots - length v) 0)

  pub filled_below : (v : List ℕ) → FitsRow p v → All (λ x. x < p.t) (filled p.slots v)
  filled_below v h = All-append (λ x. x < p.t) v (replicate (p.slots - length v) 0) h.1 (All-replicate (λ x. x < p.t) (p.slots - length v) 0 (facts p).t_pos)

  pub first_rows : (vs ws : List (List ℕ)) → length vs ≡ length ws → All (FitsRow p) vs → map (row_of p first_row) (two_row_messages p vs ws) ≡ map (filled p.slots) vs
  first_rows [] ws e fit = refl
  first_rows (v ∷ vs) [] e fit = absurd (omega arith)
  first_rows (v ∷ vs) (w ∷ ws) e fit =
      let here : FitsRow p v = All-head (FitsRow p) v vs fit in
      ap₂ (λ x xs. x ∷ xs) (first_comes_back p (filled p.slots v) (filled p.slots w) (length-filled v here) (filled_below v here)) (first_rows vs ws (omega arith) (All-tail (FitsRow p) v vs fit))

  pub second_rows : (vs ws : List (List ℕ)) → length vs ≡ length ws → All (FitsRow p) ws → map (row_of p (second_row p)) (two_row_messages p vs ws) ≡ map (filled p.slots) ws
  second_rows [] [] e fit = refl
  second_rows [] (w ∷ ws) e fit = absurd (omega arith)
  second_rows (v ∷ vs) [] e fit = absurd (omega arith)
  second_rows (v ∷ vs) (w ∷ ws) e fit =
      let here : FitsRow p w = All-head (FitsRow p) w ws fit in
      ap₂ (λ x xs. x ∷ xs) (second_comes_back p (filled p.slots v) (filled p.slots w) (length-filled w here) (filled_below w here)) (second_rows vs ws (omega arith) (All-tail (FitsRow p) w ws fit))

  pub length-two_rows : (vs ws : List (List ℕ)) → length vs ≡ length ws → length (two_row_messages p vs ws) ≡ length vs
  length-two_rows [] ws e = refl
  length-two_rows (v ∷ vs) [] e = absurd (omega arith)
  length-two_rows (v ∷ vs) (w ∷ ws) e = ap (λ n. suc n) (length-two_rows vs ws (omega arith))

pub rows_independent : RowsAreIndependent
rows_independent p c vs ws id valid many others fit_first fit_second =
    let same : length vs ≡ length ws = many ∙ sym others in
    let inputs : length (two_row_messages p vs ws) ≡ length c.inputs = length-two_rows p vs ws same ∙ many in (
      messages_mean p 1 c (two_row_messages p vs ws) (inl refl) id valid inputs ∙ ap (λ xs. along (with_wire p.t c.vectors) xs c.gates) (first_rows p vs ws same fit_first) ∙ wires_mean p c vs id,
      messages_mean p (second_row p) c (two_row_messages p vs ws) (inr refl) id valid inputs ∙ ap (λ xs. along (with_wire p.t c.vectors) xs c.gates) (second_rows p vs ws same fit_second) ∙ wires_mean p c ws id,
    )
