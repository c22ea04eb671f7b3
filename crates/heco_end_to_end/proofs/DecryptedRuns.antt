-- Decrypting the result of a run gives the circuit's meaning, in each row.
use Rattle.std.proofs.Common.{◌≡◌, ◌∙◌, ℕ, ◌<◌, true, cond, List, [], ◌∷◌, length, map, get_or, refl, sym, ap, subst, inl, arith}
use Rattle.std.specs.List.{AllZip, range_with_len}
use Rattle.std.specs.Prelude.{All}
use Rattle.std.proofs.lemmas.Bool.{and_parts, cond-true, eqb-true, ltb-true}
use Rattle.std.proofs.lemmas.List.{length-map}
use Rattle.std.proofs.lemmas.List.Elements.{All-nil, All-cons, All-map, All-weaker, filter_passes}
use Rattle.std.proofs.lemmas.List.FromFn.{get_or-map-range_with_len}
use lib.IntN.{ℤ}
use Rattle.heco_nums.specs.declared.preset.Preset.{Preset}
use Rattle.heco_ciphertext_files.specs.CiphertextFiles.{IsTwoParts, AreCiphertexts}
use Rattle.heco_circuit.specs.Circuits.{IsCircuit}
use Rattle.heco_circuit.specs.Plans.{Plan as Circuit, wire_parts, shape_of}
use Rattle.heco_key_files.specs.KeyFiles.{made_key}
use Rattle.heco_keys.proofs.MadeRows.{made_public}
use Rattle.heco_material.specs.KeyLists.{KeyLists}
use Rattle.heco_material.specs.declared.words.EncRow.{EncRow}
use Rattle.heco_meaning.specs.Meanings.{filled, wire_at, wires_of, output_values, meaning_of}
use Rattle.heco_products.specs.Decrypting.{output_wires, output_wire_count, decrypted_slots, decrypted_wires, row_text}
use Rattle.heco_products.specs.Encrypting.{encrypted_messages}
use Rattle.heco_products.specs.KeyProducts.{circuit_key}
use Rattle.heco_products.specs.Results.{keys_of}
use Rattle.heco_products.proofs.Pairs.{rows_fit}
use Rattle.heco_products.proofs.Products.{fit_count}
use Rattle.heco_scheme.specs.Encryption.{decrypted}
use Rattle.heco_scheme.specs.Keys.{IsPublicKey}
use Rattle.heco_slots.specs.Rows.{first_row, row_of}
use Rattle.heco_texts.specs.Outputs.{output_text}
use Rattle.heco_run_laws.specs.Carried.{HasShape, AllShaped, IsFreshFor, IsRowExponent, HaveKeys}
use Rattle.heco_run_laws.specs.Messages.{input_message}
use Rattle.heco_run_laws.specs.Results.{is_output_wire, wire_count, result_wires, results_of}
use Rattle.heco_run_laws.specs.Runs.{Ciphertext, ciphertext_at, run_of}
use Rattle.heco_run_laws.proofs.DecryptedRows.{rows_decrypt}
use Rattle.heco_run_laws.proofs.GateKeys.{circuit_has_keys}
use Rattle.heco_run_laws.proofs.Shapes.{wires_shaped}
use Rattle.heco_run_laws.proofs.Wires.{zip_long}
use Rattle.heco_end_to_end.specs.EndToEnd.{IsProvided, IsRunnable, PrintsTheMeaning, ResultsAreCiphertexts, RowsPrintTheMeaning, RunsAreRead}
use Rattle.heco_end_to_end.proofs.FreshInputs.{messages_fresh, input_rows}
use Rattle.heco_end_to_end.proofs.OutputWires.{length-wires, output_wire_parts, same_outputs, decrypted_each, result_count}

-- ---- a run whose wires have their parts

output_wire_inside : (c : Circuit) (w : ℕ) → IsCircuit c → is_output_wire c.outputs w ≡ true → w < length (wire_parts c)
output_wire_inside c w valid h = ltb-true w (length (wire_parts c)) (and_parts _ _ (output_wire_parts c w valid h)).0

module _ (n : ℕ) (c : Circuit) (valid : IsCircuit c) (cs : List Ciphertext) (all : AllShaped n (wire_parts c) cs) where
  two_parts : (w : ℕ) → is_output_wire c.outputs w ≡ true → IsTwoParts n (ciphertext_at cs w)
  two_parts w h =
      let shape = all.each w (output_wire_inside c w valid h) in
      record { two = shape.count ∙ eqb-true (get_or (wire_parts c) w 0) 2 (and_parts _ _ (output_wire_parts c w valid h)).1; parts = shape.words }

  pub are_results : AreCiphertexts n (output_wire_count c) (map (ciphertext_at cs) (result_wires c))
  unfolding output_wire_count output_wires
  are_results = record {
    count = result_count (is_output_wire c.outputs) (ciphertext_at cs) 0 (wire_count c);
    each = All-map (IsTwoParts n) (ciphertext_at cs) (result_wires c)
        (All-weaker (λ w. is_output_wire c.outputs w ≡ true) (λ w. IsTwoParts n (ciphertext_at cs w)) two_parts (result_wires c) (filter_passes (is_output_wire c.outputs) (range_with_len 0 (wire_count c))));
  }

-- an input as it is read has its shape
input_shape : (n : ℕ) (c : Ciphertext) → IsTwoParts n c → HasShape n 2 c
input_shape n c two = record { count = two.two; two_or_three = inl refl; words = two.parts }

pub results_are_ciphertexts : ResultsAreCiphertexts
unfolding results_of
results_are_ciphertexts p c e inputs valid read =
    are_results p.n c valid (run_of p (keys_of e) c inputs)
    (wires_shaped p (keys_of e) c inputs valid read.count (All-weaker (IsTwoParts p.n) (HasShape p.n 2) (input_shape p.n) inputs read.each))

-- ---- fresh inputs

fresh_ciphertexts : (p : Preset) (s : List ℤ) (messages : List (List ℕ)) (cs : List Ciphertext) → AllZip (IsFreshFor p s) messages cs → AreCiphertexts p.n (length messages) cs
fresh_ciphertexts p s messages cs h = record { count = sym (zip_long (IsFreshFor p s) messages cs h); each = parts messages cs h }
  where
    parts : (messages : List (List ℕ)) (cs : List Ciphertext) → AllZip (IsFreshFor p s) messages cs → All (IsTwoParts p.n) cs
    parts [] [] h = All-nil (IsTwoParts p.n)
    parts [] (c ∷ cs) h = absurd h
    parts (m ∷ messages) [] h = absurd h
    parts (m ∷ messages) (c ∷ cs) h = All-cons (IsTwoParts p.n) c cs (record { two = h.0.shape.count; parts = h.0.shape.words }) (parts messages cs h.1)

-- ---- a run whose wires decrypt, in the row e, to these lists

module _ (p : Preset) (e : ℕ) (s : List ℤ) (c : Circuit) (valid : IsCircuit c) (vs : List (List ℕ)) (cs : List Ciphertext) (wires : (w : ℕ) → w < length (wire_parts c) → row_of p e (decrypted p s (ciphertext_at cs w)) ≡ wire_at vs w) where
  decrypted_wire : (w : ℕ) → w < length (wire_parts c) → decrypted_slots p e s (ciphertext_at cs w) ≡ wire_at vs w
  unfolding decrypted_slots
  decrypted_wire w l = wires w l

  -- the slots that are decrypted for each wire, where the result is these wires' ciphertexts
  output_slots : (w : ℕ) → is_output_wire c.outputs w ≡ true → wire_at (decrypted_wires p e s (output_wires c) (map (ciphertext_at cs) (result_wires c))) w ≡ wire_at vs w
  unfolding output_wires
  output_slots w h =
      let l : w < length (wire_parts c) = output_wire_inside c w valid h in
      let slots : ℕ → List ℕ = λ w. cond (is_output_wire c.outputs w) (decrypted_slots p e s (ciphertext_at cs w)) [] in
      ap (λ rows. wire_at rows w) (decrypted_each p e s (is_output_wire c.outputs) (ciphertext_at cs) 0 (wire_count c))
      ∙ get_or-map-range_with_len slots 0 (wire_count c) w w [] (omega (arith, length-wires c)) (omega arith)
      ∙ cond-true (is_output_wire c.outputs w) (decrypted_slots p e s (ciphertext_at cs w)) [] h ∙ decrypted_wire w l

  printed : row_text p e c s (map (ciphertext_at cs) (result_wires c)) ≡ output_text (map shape_of c.outputs) (map (output_values vs) c.outputs)
  unfolding row_text
  printed = ap (output_text (map shape_of c.outputs)) (same_outputs (decrypted_wires p e s (output_wires c) (map (ciphertext_at cs) (result_wires c))) vs c.outputs output_slots)

-- ---- a run from material and messages

module _ (p : Preset) (c : Circuit) (k : KeyLists) (material : List EncRow) (messages : List (List ℕ)) (given : IsProvided p c k material) (many : length messages ≡ length c.inputs) where
  pub has_keys : HaveKeys p k.s (keys_of (circuit_key p c k)) c.gates
  unfolding made_key
  has_keys = circuit_has_keys p c k given.valid given.keys

  has_public : IsPublicKey p.n p.b k.s (circuit_key p c k).p0 (circuit_key p c k).p1
  unfolding made_key
  has_public = made_public p.n p.b k.s k.e k.a given.keys.errors

  pub fresh : AllZip (IsFreshFor p k.s) messages (encrypted_messages p (circuit_key p c k) material messages)
  fresh = messages_fresh p k.s (circuit_key p c k) given.keys.secret has_public material messages (given.words.count ∙ sym many) given.words.rows

  encrypted : AreCiphertexts p.n (length c.inputs) (encrypted_messages p (circuit_key p c k) material messages)
  encrypted = subst (λ n. AreCiphertexts p.n n (encrypted_messages p (circuit_key p c k) material messages)) many (fresh_ciphertexts p k.s messages (encrypted_messages p (circuit_key p c k) material messages) fresh)

  pub runs_read : AreCiphertexts p.n (length c.inputs) (encrypted_messages p (circuit_key p c k) material messages) × AreCiphertexts p.n (output_wire_count c) (results_of p (keys_of (circuit_key p c k)) c (encrypted_messages p (circuit_key p c k) material messages))
  runs_read = (encrypted, results_are_ciphertexts p c (circuit_key p c k) (encrypted_messages p (circuit_key p c k) material messages) given.valid encrypted)

  module _ (e : ℕ) (row : IsRowExponent p e) (rows : List (List ℕ)) (same : map (row_of p e) messages ≡ map (filled p.slots) rows) where
    pub prints_its_row : row_text p e c k.s (results_of p (keys_of (circuit_key p c k)) c (encrypted_messages p (circuit_key p c k) material messages)) ≡ output_text (map shape_of c.outputs) (meaning_of c rows)
    unfolding results_of meaning_of
    prints_its_row = printed p e k.s c given.valid (wires_of c rows) (run_of p (keys_of (circuit_key p c k)) c (encrypted_messages p (circuit_key p c k) material messages))
        (rows_decrypt p e k.s (keys_of (circuit_key p c k)) c messages rows (encrypted_messages p (circuit_key p c k) material messages) row given.preset given.valid given.keys.secret has_keys many fresh same)

pub rows_print : RowsPrintTheMeaning
rows_print p e c k material messages rows row given many same = prints_its_row p c k material messages given many e row rows same

pub runs_are_read : RunsAreRead
runs_are_read p c k material messages given many = runs_read p c k material messages given many

-- ---- a run from material and values

module _ (p : Preset) (c : Circuit) (k : KeyLists) (material : List EncRow) (rows : List (List ℕ)) (runs : IsRunnable p c k material rows) where
  pub many_rows : length (map (input_message p) rows) ≡ length c.inputs
  many_rows = length-map rows (input_message p) ∙ fit_count p.t c.inputs rows runs.fit

  pub prints_the_meaning : PrintsTheMeaning p c k material rows
  prints_the_meaning = rows_print p first_row c k material (map (input_message p) rows) rows (inl refl) runs.provided many_rows (input_rows p rows (rows_fit p c rows runs.provided.preset runs.provided.valid runs.fit))
