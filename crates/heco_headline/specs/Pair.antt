-- What `pair` gives: the files and both texts that come of one good circuit, of material and of two rows of values.
use Rattle.std.specs.Prelude.{◌≡◌, ℕ, List, [], ◌∷◌}
use Rattle.heco_circuit.specs.CircuitFormat.{circuit_text}
use Rattle.heco_circuit.specs.Plans.{Plan as Circuit}
use Rattle.heco_material.specs.KeyLists.{KeyLists}
use Rattle.heco_material.specs.declared.words.EncRow.{EncRow}
use Rattle.heco_nums.specs.declared.shape.Values.{Values}
use Rattle.heco_products.specs.Decrypting.{row_text}
use Rattle.heco_products.specs.Encrypting.{encrypted_pairs, pairs_file}
use Rattle.heco_products.specs.KeyProducts.{circuit_key, evaluation_file, secret_file}
use Rattle.heco_nums.specs.PresetRows.{preset_of}
use Rattle.heco_products.specs.Results.{keys_of, results_file}
use Rattle.heco_run_laws.specs.Results.{results_of}
use Rattle.heco_run_laws.specs.Runs.{Ciphertext}
use Rattle.heco_slots.specs.Rows.{first_row, second_row}
use Rattle.heco_sources.specs.Inputs.{IsInput}
use Rattle.heco_syntax.specs.declared.tree.Source.{Source}
use Rattle.heco_end_to_end.specs.EndToEnd.{IsRunnable}
use Rattle.heco_good.specs.Good.{Good}
use Rattle.heco_headline.specs.Exec.{IsMaterialFor}
use Rattle.heco_headline.specs.Headline.{IsPlainText}

-- ---- what is written and printed

-- the circuit, both keys, the inputs that are encrypted in two rows, and the result, in the order in which they are written
unfoldable pub pair_files : Circuit → KeyLists → List EncRow → List (List ℕ) → List (List ℕ) → List (List ℕ)
pair_files c k material first second =
    let p = preset_of c.preset in
    let key = circuit_key p c k in
    circuit_text c ∷ secret_file p k ∷ evaluation_file p c k ∷ pairs_file p key material first second
    ∷ results_file p c key (encrypted_pairs p key material first second) ∷ []

-- the keys are made, the inputs encrypted in two rows, and the circuit run
abbrev pub pair_result : Circuit → KeyLists → List EncRow → List (List ℕ) → List (List ℕ) → List Ciphertext
pair_result c k material first second =
    let p = preset_of c.preset in
    let key = circuit_key p c k in
    results_of p (keys_of key) c (encrypted_pairs p key material first second)

-- what decrypting the result prints of the first row, and of the second
unfoldable pub first_text : Circuit → KeyLists → List EncRow → List (List ℕ) → List (List ℕ) → List ℕ
first_text c k material first second = row_text (preset_of c.preset) first_row c k.s (pair_result c k material first second)

unfoldable pub second_text : Circuit → KeyLists → List EncRow → List (List ℕ) → List (List ℕ) → List ℕ
second_text c k material first second = row_text (preset_of c.preset) (second_row (preset_of c.preset)) c k.s (pair_result c k material first second)

-- ---- the laws

-- a circuit that can be run on the values of the one row and of the other, with this material
pub record CanRunBoth (c : Circuit) (k : KeyLists) (material : List EncRow) (first second : List (List ℕ)) : Type 0 where
  pub on_first : IsRunnable (preset_of c.preset) c k material first
  pub on_second : IsRunnable (preset_of c.preset) c k material second

-- whatever good circuit was chosen can be run on both rows, and each text that is printed is what the source's execution on the values of its row prints
abbrev pub PairPrintsBothPlainTexts : Type 0
PairPrintsBothPlainTexts =
    (source : Source) (c : Circuit) (text other : List ℕ) (v w : Values) (k : KeyLists) (material : List EncRow)
    → Good source c → IsInput source text v → IsInput source other w → IsMaterialFor source k material
    → CanRunBoth c k material v.rows w.rows
    × IsPlainText source v.rows (first_text c k material v.rows w.rows) × IsPlainText source w.rows (second_text c k material v.rows w.rows)

-- so what is printed of one row is the same for every content of the other, whatever good circuits are chosen and whatever the material is
abbrev pub RowsPrintApart : Type 0
RowsPrintApart =
    (source : Source) (c c' : Circuit) (k k' : KeyLists) (material material' : List EncRow) (first second first' second' : List (List ℕ))
    → Good source c → Good source c' → CanRunBoth c k material first second → CanRunBoth c' k' material' first' second'
    → (first ≡ first' → first_text c k material first second ≡ first_text c' k' material' first' second')
    × (second ≡ second' → second_text c k material first second ≡ second_text c' k' material' first' second')
