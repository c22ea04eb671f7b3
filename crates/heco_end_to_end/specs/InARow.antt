-- Commands one after the other: each reads what those before it wrote.
use Rattle.std.specs.Prelude.{◌≡◌, ℕ, List, length, map, ℤ}
use Rattle.heco_nums.specs.declared.preset.Preset.{Preset}
use Rattle.heco_ciphertext_files.specs.CiphertextFiles.{AreCiphertexts, file_text, magic_of}
use Rattle.heco_ciphertext_files.specs.declared.kind.FileKind.TheVariants.{Cts, Res}
use Rattle.heco_circuit.specs.Needs.{needed_keys}
use Rattle.heco_circuit.specs.Plans.{Plan as Circuit, shape_of}
use Rattle.heco_key_files.specs.KeyFiles.{EvalLists, AreEvalLists, eval_text, secret_text}
use Rattle.heco_material.specs.KeyLists.{KeyLists, IsKeyMaterial}
use Rattle.heco_material.specs.declared.words.EncRow.{EncRow}
use Rattle.heco_meaning.specs.Meanings.{meaning_of}
use Rattle.heco_products.specs.Decrypting.{output_wire_count, outputs_text}
use Rattle.heco_products.specs.Encrypting.{inputs_file}
use Rattle.heco_nums.specs.MaterialBounds.{IsSparse}
use Rattle.heco_texts.specs.Outputs.{output_text}
use Rattle.heco_run_laws.specs.Runs.{Ciphertext}
use Rattle.heco_end_to_end.specs.EndToEnd.{IsRunnable}
use Rattle.heco_products.specs.KeyProducts.{circuit_key, evaluation_file, secret_file}
use Rattle.heco_products.specs.Results.{results_file}

-- the keys' files are read as these keys, the file that is encrypted by them as these inputs, and the file of their run as this result
pub record AreReadInARow (p : Preset) (c : Circuit) (k : KeyLists) (material : List EncRow) (rows : List (List ℕ)) (e : EvalLists)
    (s : List ℤ) (inputs results : List Ciphertext) : Type 0 where
  pub evaluation : AreEvalLists p.n p.slots e
  pub evaluation_file : evaluation_file p c k ≡ eval_text p.id e
  pub secret : IsSparse p.n p.h s
  pub secret_file : secret_file p k ≡ secret_text p.id s
  pub ciphertexts : AreCiphertexts p.n (length c.inputs) inputs
  pub ciphertexts_file : inputs_file p e material rows ≡ file_text (magic_of Cts) p.id inputs
  pub result : AreCiphertexts p.n (output_wire_count c) results
  pub result_file : results_file p c e inputs ≡ file_text (magic_of Res) p.id results

-- then what is printed at last is the text of the circuit's meaning
abbrev pub PrintsTheMeaningInARow : Type 0
PrintsTheMeaningInARow =
    (p : Preset) (c : Circuit) (k : KeyLists) (material : List EncRow) (rows : List (List ℕ)) (e : EvalLists) (s : List ℤ) (inputs results : List Ciphertext)
    → IsRunnable p c k material rows → AreReadInARow p c k material rows e s inputs results
    → outputs_text p c s results ≡ output_text (map shape_of c.outputs) (meaning_of c rows)

-- what is made for a valid circuit from material within bounds is an evaluation key that can be read
abbrev pub MadeKeysAreRead : Type 0
MadeKeysAreRead = (p : Preset) (c : Circuit) (k : KeyLists) → p.id ≡ c.preset → IsKeyMaterial p.n p.h p.b (needed_keys c) k
    → AreEvalLists p.n p.slots (circuit_key p c k)
