-- What is read of key material is what was spelled, for exactly the material within bounds, and its length.
use Rattle.std.proofs.Common.{◌≡◌, ℕ, ◌*◌, ◌<◌, List, ◌++◌, length, refl, sym, ap, ◌∙◌, arith}
use Rattle.std.specs.Prelude.{ℤ}
use Rattle.std.specs.List.{flat_map, All}
use Rattle.std.proofs.lemmas.List.{length-append}
use Rattle.std.proofs.lemmas.List.Elements.{All-weaker}
use Rattle.heco_fields.specs.Formats.{Value, many, ◌>>=◌ as ◌then◌}
use Rattle.heco_nums.specs.Runs.{stays}
use Rattle.heco_fields.proofs.Laws.{Law, then_law, last_law, same_law}
use Rattle.heco_fields.proofs.ManyLaws.{each_law}
use Rattle.heco_nums.specs.MaterialBounds.{IsSparse, AreErrors, AreWords}
use Rattle.heco_material.specs.declared.words.SwitchRow.{SwitchRow}
use Rattle.heco_material.specs.declared.words.SwitchWords.{SwitchWords}
use Rattle.heco_material.specs.KeyLists.{KeyLists, key_lists, IsSwitchRow, IsSwitch, IsKeyMaterial}
use Rattle.heco_material.specs.KeyFormat.{switch_row, row, switch_words, switch, switches, keys, row_text, switch_text, switches_text, keys_text, keys_length}
use Rattle.heco_lists.specs.ListFormat.{sparse, words, errors, bytes_text, words_text}
use Rattle.heco_lists.proofs.ListLaws.{sparse_law, words_law, errors_law}
use Rattle.heco_lists.proofs.Lengths.{length_each, length_bytes, length_words}

row_law : (n b : ℕ) → b < 128 → (s : ℕ) → Law (row n b s) row_text (IsSwitchRow n b)
unfolding row
row_law n b small s =
    let RowOf : List ℕ → SwitchRow → Type 0 = λ a r. AreErrors n b r.e × (switch_row a r.e ≡ r) in
    same_law (row n b s) row_text row_text (λ (r : SwitchRow). AreWords n r.a × RowOf r.a r) (IsSwitchRow n b)
    (then_law (words n) (λ a. errors n b then λ e. Value (switch_row a e)) words_text (λ (r : SwitchRow). bytes_text r.e) (AreWords n) RowOf (λ r. r.a) (words_law n)
    (λ a _. last_law (errors n b) (switch_row a) (λ r. r.e) bytes_text (AreErrors n b) (errors_law n b small) (λ e. refl))
    (λ a r h. ap (λ (t : SwitchRow). t.a) (sym h.1)))
    (λ r _. refl) (λ r h. record { words = h.0; errors = h.1.0 }) (λ r h. (h.words, (h.errors, refl)))

switch_law : (n b : ℕ) → b < 128 → (s : ℕ) → Law (switch n b s) switch_text (IsSwitch n b)
unfolding switch switch_text
switch_law n b small s =
    same_law (switch n b s) switch_text switch_text (λ (w : SwitchWords). ((length w.rows ≡ 29) × All (IsSwitchRow n b) w.rows) × (switch_words w.rows ≡ w)) (IsSwitch n b)
    (last_law (many (row n b) stays 29 0) switch_words (λ w. w.rows) (flat_map row_text) (λ rows. (length rows ≡ 29) × All (IsSwitchRow n b) rows) (each_law (row n b) row_text (IsSwitchRow n b) (row_law n b small) 29 0) (λ rows. refl))
    (λ w _. refl) (λ w h. record { count = h.0.0; rows = h.0.1 }) (λ w h. ((h.count, h.rows), refl))

abbrev AreSwitches : ℕ → ℕ → ℕ → List SwitchWords → Type 0
AreSwitches n b count ws = (length ws ≡ count) × All (IsSwitch n b) ws

switches_law : (n b count : ℕ) → b < 128 → Law (switches n b count) switches_text (AreSwitches n b count)
unfolding switches switches_text
switches_law n b count small = each_law (switch n b) switch_text (IsSwitch n b) (switch_law n b small) count 0

abbrev Last : ℕ → ℕ → ℕ → List ℤ → List ℕ → List ℤ → KeyLists → Type 0
Last n b count s a e k = AreSwitches n b count k.switch × (key_lists s a e k.switch ≡ k)

abbrev FromErrors : ℕ → ℕ → ℕ → List ℤ → List ℕ → KeyLists → Type 0
FromErrors n b count s a k = AreErrors n b k.e × Last n b count s a k.e k

abbrev FromWords : ℕ → ℕ → ℕ → List ℤ → KeyLists → Type 0
FromWords n b count s k = AreWords n k.a × FromErrors n b count s k.a k

pub keys_law : (n h b count : ℕ) → b < 128 → Law (keys n h b count) keys_text (IsKeyMaterial n h b count)
unfolding keys
keys_law n h b count small =
    let last = λ (s : List ℤ) (a : List ℕ) (e : List ℤ). last_law (switches n b count) (key_lists s a e) (λ k. k.switch) switches_text (AreSwitches n b count) (switches_law n b count small) (λ w. refl) in
    let from_errors = λ (s : List ℤ) (a : List ℕ). then_law (errors n b) (λ e. switches n b count then λ w. Value (key_lists s a e w)) bytes_text (λ (k : KeyLists). switches_text k.switch) (AreErrors n b) (Last n b count s a) (λ k. k.e) (errors_law n b small)
    (λ e _. last s a e) (λ e k l. ap (λ (t : KeyLists). t.e) (sym l.1)) in
    let from_words = λ (s : List ℤ). then_law (words n) (λ a. errors n b then λ e. switches n b count then λ w. Value (key_lists s a e w)) words_text (λ (k : KeyLists). bytes_text k.e ++ switches_text k.switch) (AreWords n) (FromErrors n b count s) (λ k. k.a) (words_law n)
    (λ a _. from_errors s a) (λ a k l. ap (λ (t : KeyLists). t.a) (sym l.1.1)) in
    same_law (keys n h b count) keys_text keys_text (λ (k : KeyLists). IsSparse n h k.s × FromWords n b count k.s k) (IsKeyMaterial n h b count)
    (then_law (sparse n h) (λ s. words n then λ a. errors n b then λ e. switches n b count then λ w. Value (key_lists s a e w)) bytes_text (λ (k : KeyLists). words_text k.a ++ (bytes_text k.e ++ switches_text k.switch)) (IsSparse n h) (FromWords n b count) (λ k. k.s) (sparse_law n h)
    (λ s _. from_words s) (λ s k l. ap (λ (t : KeyLists). t.s) (sym l.1.1.1)))
    (λ k _. refl)
    (λ k m. record { secret = m.0; words = m.1.0; errors = m.1.1.0; count = m.1.1.1.0.0; switch = m.1.1.1.0.1 })
    (λ k m. (m.secret, (m.words, (m.errors, ((m.count, m.switch), refl)))))

-- ---- lengths

length_row : (n b : ℕ) (r : SwitchRow) → IsSwitchRow n b r → length (row_text r) ≡ 9 * n
length_row n b r h = length-append (words_text r.a) (bytes_text r.e) ∙ omega (arith, length_words r.a, length_bytes r.e, h.words.long, h.errors.long)

length_switch : (n b : ℕ) (w : SwitchWords) → IsSwitch n b w → length (switch_text w) ≡ 261 * n
unfolding switch_text
length_switch n b w h = length_each row_text (9 * n) w.rows (All-weaker (IsSwitchRow n b) (λ r. length (row_text r) ≡ 9 * n) (length_row n b) w.rows h.rows) ∙ ap (λ m. 9 * n * m) h.count ∙ omega arith

length_switches : (n b : ℕ) (ws : List SwitchWords) → All (IsSwitch n b) ws → length (switches_text ws) ≡ 261 * n * length ws
unfolding switches_text
length_switches n b ws h = length_each switch_text (261 * n) ws (All-weaker (IsSwitch n b) (λ w. length (switch_text w) ≡ 261 * n) (length_switch n b) ws h)

pub keys_long : (n h b count : ℕ) (k : KeyLists) → IsKeyMaterial n h b count k → length (keys_text k) ≡ keys_length n count
keys_long n h b count k m =
    let s = length_bytes k.s in
    let a = length_words k.a in
    let e = length_bytes k.e in
    let w : length (switches_text k.switch) ≡ 261 * n * count = length_switches n b k.switch m.switch ∙ ap (λ c. 261 * n * c) m.count in
    let i = length-append (bytes_text k.s) (words_text k.a ++ (bytes_text k.e ++ switches_text k.switch)) in
    let j = length-append (words_text k.a) (bytes_text k.e ++ switches_text k.switch) in
    let l = length-append (bytes_text k.e) (switches_text k.switch) in
    let p = m.secret.long in
    let q = m.words.long in
    let r = m.errors.long in
    omega arith
