-- What `exec` gives: the files and the text that come of one good circuit, of material and of values.
use Rattle.std.specs.Prelude.{◌≡◌, ℕ, ◌+◌, List, [], ◌∷◌, Ok, Err, length, if◌then◌else◌}
use Rattle.heco_nums.specs.Presets.{degree_of, hamming_weight_of, error_of}
use Rattle.heco_circuit.specs.CircuitFormat.{circuit_text}
use Rattle.heco_circuit.specs.Plans.{Plan as Circuit}
use Rattle.heco_execution.specs.Laws.{source_terms}
use Rattle.heco_execution.specs.Outcomes.{Outcome}
use Rattle.heco_material.specs.KeyLists.{KeyLists, IsKeyMaterial, IsEncMaterial}
use Rattle.heco_material.specs.declared.words.EncRow.{EncRow}
use Rattle.heco_nums.specs.declared.shape.Values.{Values}
use Rattle.heco_products.specs.Decrypting.{outputs_text}
use Rattle.heco_products.specs.Encrypting.{encrypted_inputs, inputs_file}
use Rattle.heco_nums.specs.PresetRows.{preset_of}
use Rattle.heco_sources.specs.Inputs.{input_shapes, IsInput}
use Rattle.heco_syntax.specs.declared.tree.Source.{Source}
use Rattle.heco_written.specs.Needs.{needs_relinearisation, turn_amounts}
use Rattle.heco_written.specs.ScalarTerm.{ScalarTerm}
use Rattle.heco_written.specs.WrittenForm.{vectors_of}
use Rattle.heco_end_to_end.specs.EndToEnd.{IsRunnable, run_result}
use Rattle.heco_products.specs.KeyProducts.{circuit_key, evaluation_file, secret_file}
use Rattle.heco_products.specs.Results.{results_file}
use Rattle.heco_good.specs.Good.{Good, preset_named, modulus, slots, homes_of}
use Rattle.heco_headline.specs.Headline.{IsPlainText}

-- ---- material, which is judged by the source alone

-- how many switch keys the written form of these terms needs
abbrev pub written_keys : Source → List (List ScalarTerm) → ℕ
written_keys source terms =
    (if needs_relinearisation (vectors_of (homes_of source terms)) then 1 else 0) + length (turn_amounts (slots source) (vectors_of (homes_of source terms)))

-- a source whose execution breaks needs none
abbrev pub keys_for : Source → Outcome (List (List ScalarTerm)) → ℕ
keys_for source (Ok terms) = written_keys source terms
keys_for source (Err e) = 0

-- how many switch keys the source needs, by its written form
unfoldable pub source_keys : Source → ℕ
source_keys source = keys_for source (source_terms (modulus source) source)

-- within the bounds of the source's preset, for the switch keys of its written form and for its inputs
pub record IsMaterialFor (source : Source) (k : KeyLists) (material : List EncRow) : Type 0 where
  pub terms : List (List ScalarTerm)
  pub execution : source_terms (modulus source) source ≡ Ok terms
  pub keys : IsKeyMaterial (degree_of (preset_named source)) (hamming_weight_of (preset_named source)) (error_of (preset_named source))
      (written_keys source terms) k
  pub words : IsEncMaterial (degree_of (preset_named source)) (hamming_weight_of (preset_named source)) (error_of (preset_named source))
      (length (input_shapes source)) material

-- ---- what is written and printed

-- the circuit, both keys, the encrypted inputs and the result, in the order in which they are written
unfoldable pub files_of : Circuit → KeyLists → List EncRow → List (List ℕ) → List (List ℕ)
files_of c k material rows =
    let p = preset_of c.preset in
    let key = circuit_key p c k in
    circuit_text c ∷ secret_file p k ∷ evaluation_file p c k ∷ inputs_file p key material rows
    ∷ results_file p c key (encrypted_inputs p key material rows) ∷ []

-- what decrypting the result prints
unfoldable pub text_of : Circuit → KeyLists → List EncRow → List (List ℕ) → List ℕ
text_of c k material rows = outputs_text (preset_of c.preset) c k.s (run_result (preset_of c.preset) c k material rows)

-- whatever good circuit was chosen can be run, and what is printed is what the source's execution on these values prints
abbrev pub ExecPrintsThePlainText : Type 0
ExecPrintsThePlainText =
    (source : Source) (c : Circuit) (text : List ℕ) (v : Values) (k : KeyLists) (material : List EncRow) → Good source c → IsInput source text v
    → IsMaterialFor source k material
    → IsRunnable (preset_of c.preset) c k material v.rows × IsPlainText source v.rows (text_of c k material v.rows)
