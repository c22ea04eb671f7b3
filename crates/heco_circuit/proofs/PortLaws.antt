-- What is read of inputs and outputs is what was spelled.
use Rattle.std.proofs.Common.{◌≡◌, ℕ, zero, suc, ◌-◌, ◌^◌, ◌<◌, cond, leb, eqb, List, [], ◌++◌, length, refl, sym, ap, subst, ◌∙◌, append_assoc, arith}
use Rattle.std.specs.Prelude.{IsTrue}
use Rattle.std.specs.List.{flat_map}
use Rattle.std.specs.Int.{w8, w16, w32, to_be_bytes}
use Rattle.std.proofs.lemmas.List.{append-nil}
use Rattle.std.proofs.lemmas.Bool.{leb-true}
use Rattle.heco_nums.specs.declared.shape.Shape.{Shape}
use Rattle.heco_fields.specs.Formats.{Value, Field, within, many, ◌>>=◌ as ◌then◌}
use Rattle.heco_fields.proofs.Laws.{Law, value_law, then_law, same_law}
use Rattle.heco_nums.specs.Runs.{FitAlong, stays}
use Rattle.heco_fields.proofs.FieldLaws.{bytes_law, number_law, wide8, wide16, wide32}
use Rattle.heco_fields.proofs.ManyLaws.{many_law}
use Rattle.heco_circuit.specs.declared.gate.Cell.{Cell}
use Rattle.heco_circuit.specs.declared.gate.Cell.TheVariants.{Number, Slot}
use Rattle.heco_circuit.specs.declared.gate.Output.{Output}
use Rattle.heco_circuit.specs.Validity.{has_parts, is_between}
use Rattle.heco_circuit.specs.Plans.{is_new, is_cell}
use Rattle.heco_circuit.specs.GateFormat.{wire_with}
use Rattle.heco_fields.proofs.Bools.{both_true, and_true}
use Rattle.heco_circuit.specs.CircuitFormat.{name, input, number_cell, slot_cell, cell, output, name_text, input_text, cell_text, output_text}

-- ---- names

-- a name that no earlier one equals
abbrev pub IsOwnName : List Shape → List Output → List ℕ → Type 0
IsOwnName inputs outputs text = IsTrue (is_between 1 (2 ^ 20) (length text)) × IsTrue (is_new inputs outputs text)

below_word : (low n : ℕ) → IsTrue (is_between low (2 ^ 20) n) → n < 2 ^ 32
below_word low n h = let v = leb-true _ _ (both_true (leb low n) (leb n (2 ^ 20)) h).1 in omega arith

pub name_law : (inputs : List Shape) (outputs : List Output) → Law (name inputs outputs) name_text (IsOwnName inputs outputs)
unfolding name
name_law inputs outputs =
    same_law (name inputs outputs) name_text name_text (λ text. ((length text < 2 ^ 32) × IsTrue (is_between 1 (2 ^ 20) (length text))) × ((length text ≡ length text) × IsTrue (is_new inputs outputs text))) (IsOwnName inputs outputs)
    (then_law (within w32 1 (2 ^ 20)) (λ len. Field len (is_new inputs outputs) (λ b. Value b)) (to_be_bytes w32) (λ b. b) (λ n. (n < 2 ^ 32) × IsTrue (is_between 1 (2 ^ 20) n)) (λ n b. (length b ≡ n) × IsTrue (is_new inputs outputs b)) length
    (number_law w32 (2 ^ 32) wide32 (is_between 1 (2 ^ 20))) (λ n _. bytes_law n (is_new inputs outputs)) (λ n b h. h.0))
    (λ text h. refl)
    (λ text h. (h.0.1, h.1.1))
    (λ text h. ((below_word 1 (length text) h.0, h.0), (refl, h.1)))

-- ---- inputs

abbrev shape : List ℕ → ℕ → Shape
shape text n = record { name = text; len = n }

-- an input behind these, in a preset of so many slots
abbrev pub IsInput : ℕ → List Shape → Shape → Type 0
IsInput slots earlier s = IsOwnName earlier [] s.name × ((s.len < 2 ^ 16) × IsTrue (is_between 1 slots s.len))

pub input_law : (slots : ℕ) (earlier : List Shape) → Law (input slots earlier) input_text (IsInput slots earlier)
unfolding input
input_law slots earlier =
    same_law (input slots earlier) (λ s. name_text s.name ++ (to_be_bytes w16 s.len ++ [])) input_text (λ s. IsOwnName earlier [] s.name × (((s.len < 2 ^ 16) × IsTrue (is_between 1 slots s.len)) × (shape s.name s.len ≡ s))) (IsInput slots earlier)
    (then_law (name earlier []) (λ text. within w16 1 slots then λ len. Value (shape text len)) name_text (λ s. to_be_bytes w16 s.len ++ []) (IsOwnName earlier []) (λ text s. ((s.len < 2 ^ 16) × IsTrue (is_between 1 slots s.len)) × (shape text s.len ≡ s)) (λ s. s.name)
    (name_law earlier [])
    (λ text _. then_law (within w16 1 slots) (λ len. Value (shape text len)) (to_be_bytes w16) (λ _. []) (λ n. (n < 2 ^ 16) × IsTrue (is_between 1 slots n)) (λ n s. shape text n ≡ s) (λ s. s.len)
    (number_law w16 (2 ^ 16) wide16 (is_between 1 slots)) (λ n _. value_law (shape text n)) (λ n s e. ap (λ (k : Shape). k.len) (sym e)))
    (λ text s h. ap (λ (k : Shape). k.name) (sym h.1)))
    (λ s h. ap (λ t. name_text s.name ++ t) (append-nil (to_be_bytes w16 s.len)))
    (λ s h. (h.0, h.1.0))
    (λ s h. (h.0, (h.1, refl)))

-- ---- cells

abbrev kind : Cell → ℕ
kind (Number n) = 0
kind (Slot w s) = 1

abbrev first : Cell → ℕ
first (Number n) = n
first (Slot w s) = w

abbrev second : Cell → ℕ
second (Number n) = 0
second (Slot w s) = s

abbrev body : Cell → List ℕ
body (Number n) = to_be_bytes w32 n
body (Slot w s) = to_be_bytes w32 w ++ to_be_bytes w16 s

abbrev IsNarrow : Cell → Type 0
IsNarrow (Number n) = n < 2 ^ 32
IsNarrow (Slot w s) = (w < 2 ^ 32) × (s < 2 ^ 16)

abbrev Has : ℕ → ℕ → List ℕ → ℕ → Cell → Type 0
Has t slots parts k c = (kind c ≡ k) × IsTrue (is_cell t slots parts c) × IsNarrow c

number_from : (t slots : ℕ) (parts : List ℕ) (c : Cell) → Has t slots parts 0 c → ((first c < 2 ^ 32) × IsTrue (is_between 0 (t - 1) (first c))) × (Number (first c) ≡ c)
number_from t slots parts (Number n) h = ((h.2, h.1), refl)
number_from t slots parts (Slot w s) h = absurd (omega (arith, h.0))

number_cell_law : (t slots : ℕ) (parts : List ℕ) → Law (number_cell t) body (Has t slots parts 0)
unfolding number_cell
number_cell_law t slots parts =
    same_law (number_cell t) (λ c. to_be_bytes w32 (first c) ++ []) body (λ c. ((first c < 2 ^ 32) × IsTrue (is_between 0 (t - 1) (first c))) × (Number (first c) ≡ c)) (Has t slots parts 0)
    (then_law (within w32 0 (t - 1)) (λ n. Value (Number n)) (to_be_bytes w32) (λ _. []) (λ n. (n < 2 ^ 32) × IsTrue (is_between 0 (t - 1) n)) (λ n c. Number n ≡ c) first
    (number_law w32 (2 ^ 32) wide32 (is_between 0 (t - 1))) (λ n _. value_law (Number n)) (λ n c e. ap first (sym e)))
    (λ c h. subst (λ (k : Cell). to_be_bytes w32 (first k) ++ [] ≡ body k) h.1 (append-nil (to_be_bytes w32 (first c))))
    (λ c h. subst (Has t slots parts 0) h.1 (refl, h.0.1, h.0.0))
    (number_from t slots parts)

abbrev slot_fits : ℕ → List ℕ → Cell → Type 0
slot_fits slots parts c = ((first c < 2 ^ 32) × IsTrue (has_parts 2 parts (first c))) × (((second c < 2 ^ 16) × IsTrue (is_between 0 (slots - 1) (second c))) × (Slot (first c) (second c) ≡ c))

slot_from : (t slots : ℕ) (parts : List ℕ) (c : Cell) → Has t slots parts 1 c → slot_fits slots parts c
slot_from t slots parts (Number n) h = absurd (omega (arith, h.0))
slot_from t slots parts (Slot w s) h = let v = both_true (has_parts 2 parts w) (is_between 0 (slots - 1) s) h.1 in ((h.2.0, v.0), ((h.2.1, v.1), refl))

slot_cell_law : (t slots : ℕ) (parts : List ℕ) → Law (slot_cell slots parts) body (Has t slots parts 1)
unfolding slot_cell
slot_cell_law t slots parts =
    same_law (slot_cell slots parts) (λ c. to_be_bytes w32 (first c) ++ (to_be_bytes w16 (second c) ++ [])) body (slot_fits slots parts) (Has t slots parts 1)
    (then_law (wire_with 2 parts) (λ w. within w16 0 (slots - 1) then λ s. Value (Slot w s)) (to_be_bytes w32) (λ c. to_be_bytes w16 (second c) ++ []) (λ w. (w < 2 ^ 32) × IsTrue (has_parts 2 parts w))
    (λ w c. ((second c < 2 ^ 16) × IsTrue (is_between 0 (slots - 1) (second c))) × (Slot w (second c) ≡ c)) first
    (number_law w32 (2 ^ 32) wide32 (has_parts 2 parts))
    (λ w _. then_law (within w16 0 (slots - 1)) (λ s. Value (Slot w s)) (to_be_bytes w16) (λ _. []) (λ s. (s < 2 ^ 16) × IsTrue (is_between 0 (slots - 1) s)) (λ s c. Slot w s ≡ c) second
    (number_law w16 (2 ^ 16) wide16 (is_between 0 (slots - 1))) (λ s _. value_law (Slot w s)) (λ s c e. ap second (sym e)))
    (λ w c h. ap first (sym h.1)))
    (λ c h. subst (λ (k : Cell). to_be_bytes w32 (first k) ++ (to_be_bytes w16 (second k) ++ []) ≡ body k) h.1.1 (ap (λ s. to_be_bytes w32 (first c) ++ s) (append-nil (to_be_bytes w16 (second c)))))
    (λ c h. subst (Has t slots parts 1) h.1.1 (refl, and_true _ _ h.0.1 h.1.0.1, (h.0.0, h.1.0.0)))
    (slot_from t slots parts)

-- a cell that may stand there
abbrev pub IsCell : ℕ → ℕ → List ℕ → Cell → Type 0
IsCell t slots parts c = IsTrue (is_cell t slots parts c) × IsNarrow c

kind_of : (t slots : ℕ) (parts : List ℕ) (k : ℕ) → IsTrue (is_between 0 1 k) → Law (cond (eqb k 0) (number_cell t) (slot_cell slots parts)) body (Has t slots parts k)
kind_of t slots parts zero h = number_cell_law t slots parts
kind_of t slots parts (suc zero) h = slot_cell_law t slots parts
kind_of t slots parts (suc (suc k)) h = let v = leb-true _ _ (both_true (leb 0 (suc (suc k))) (leb (suc (suc k)) 1) h).1 in absurd (omega arith)

kind_is : (c : Cell) → (kind c < 2 ^ 8) × IsTrue (is_between 0 1 (kind c))
kind_is (Number n) = (omega arith, refl)
kind_is (Slot w s) = (omega arith, refl)

spelled : (c : Cell) → to_be_bytes w8 (kind c) ++ body c ≡ cell_text c
spelled (Number n) = refl
spelled (Slot w s) = refl

pub cell_law : (t slots : ℕ) (parts : List ℕ) → Law (cell t slots parts) cell_text (IsCell t slots parts)
unfolding cell
cell_law t slots parts =
    same_law (cell t slots parts) (λ c. to_be_bytes w8 (kind c) ++ body c) cell_text (λ c. ((kind c < 2 ^ 8) × IsTrue (is_between 0 1 (kind c))) × Has t slots parts (kind c) c) (IsCell t slots parts)
    (then_law (within w8 0 1) (λ k. cond (eqb k 0) (number_cell t) (slot_cell slots parts)) (to_be_bytes w8) body (λ k. (k < 2 ^ 8) × IsTrue (is_between 0 1 k)) (Has t slots parts) kind
    (number_law w8 (2 ^ 8) wide8 (is_between 0 1)) (λ k h. kind_of t slots parts k h.1) (λ k c h. h.0))
    (λ c h. spelled c)
    (λ c h. (h.1.1, h.1.2))
    (λ c h. (kind_is c, (refl, h.0, h.1)))

-- ---- outputs

abbrev made : List ℕ → List Cell → Output
made text cells = record { name = text; cells = cells }

-- an output behind these
abbrev pub IsOutput : ℕ → ℕ → List Shape → List ℕ → List Output → Output → Type 0
IsOutput t slots inputs parts earlier o =
    IsOwnName inputs earlier o.name × (((length o.cells < 2 ^ 16) × IsTrue (is_between 1 4096 (length o.cells))) × FitAlong (IsCell t slots) stays parts o.cells)

pub output_law : (t slots : ℕ) (inputs : List Shape) (parts : List ℕ) (earlier : List Output) → Law (output t slots inputs parts earlier) output_text (IsOutput t slots inputs parts earlier)
unfolding output
output_law t slots inputs parts earlier =
    let Count : ℕ → Type 0 = λ n. (n < 2 ^ 16) × IsTrue (is_between 1 4096 n) in
    let Cells : ℕ → List Cell → Type 0 = λ n cs. (length cs ≡ n) × FitAlong (IsCell t slots) stays parts cs in
    same_law (output t slots inputs parts earlier) (λ o. name_text o.name ++ (to_be_bytes w16 (length o.cells) ++ (flat_map cell_text o.cells ++ []))) output_text
    (λ o. IsOwnName inputs earlier o.name × (Count (length o.cells) × (Cells (length o.cells) o.cells × (made o.name o.cells ≡ o)))) (IsOutput t slots inputs parts earlier)
    (then_law (name inputs earlier) (λ text. within w16 1 4096 then λ n. many (cell t slots) stays n parts then λ cs. Value (made text cs)) name_text (λ o. to_be_bytes w16 (length o.cells) ++ (flat_map cell_text o.cells ++ []))
    (IsOwnName inputs earlier) (λ text o. Count (length o.cells) × (Cells (length o.cells) o.cells × (made text o.cells ≡ o))) (λ o. o.name)
    (name_law inputs earlier)
    (λ text _. then_law (within w16 1 4096) (λ n. many (cell t slots) stays n parts then λ cs. Value (made text cs)) (to_be_bytes w16) (λ o. flat_map cell_text o.cells ++ []) Count (λ n o. Cells n o.cells × (made text o.cells ≡ o)) (λ o. length o.cells)
    (number_law w16 (2 ^ 16) wide16 (is_between 1 4096))
    (λ n _. then_law (many (cell t slots) stays n parts) (λ cs. Value (made text cs)) (flat_map cell_text) (λ _. []) (Cells n) (λ cs o. made text cs ≡ o) (λ o. o.cells)
    (many_law (cell t slots) stays cell_text (IsCell t slots) (cell_law t slots) n parts) (λ cs _. value_law (made text cs)) (λ cs o e. ap (λ (k : Output). k.cells) (sym e)))
    (λ n o h. h.0.0))
    (λ text o h. ap (λ (k : Output). k.name) (sym h.1.1)))
    (λ o h. ap (λ s. name_text o.name ++ (to_be_bytes w16 (length o.cells) ++ s)) (append-nil (flat_map cell_text o.cells)) ∙ sym (append_assoc (name_text o.name) (to_be_bytes w16 (length o.cells)) (flat_map cell_text o.cells)))
    (λ o h. (h.0, (h.1.0, h.1.1.0.1)))
    (λ o h. (h.0, (h.1.0, ((refl, h.1.1), refl))))
