-- The headline: what `exec` has done where it is done.
use Rattle.std.specs.Prelude.{◌≡◌, ◌≢◌, ℕ, List, [], ◌∷◌, Some}
use Rattle.heco_circuit.specs.CircuitFormat.{circuit_text}
use Rattle.heco_circuit.specs.Plans.{Plan as Circuit}
use Rattle.heco_good.specs.Accepted.{IsAccepted}
use Rattle.heco_good.specs.Compiled.{IsPassedOf}
use Rattle.heco_peep.specs.Rules.{Handed}
use Rattle.heco_headline.specs.Headline.{IsPlainText}
use Rattle.heco_material.specs.KeyLists.{KeyLists}
use Rattle.heco_material.specs.declared.words.EncRow.{EncRow}
use Rattle.heco_nums.specs.declared.shape.Values.{Values}
use Rattle.heco_products.specs.Decrypting.{outputs_text}
use Rattle.heco_products.specs.Encrypting.{encrypted_inputs, inputs_file}
use Rattle.heco_products.specs.KeyProducts.{circuit_key, evaluation_file, secret_file}
use Rattle.heco_nums.specs.PresetRows.{preset_of}
use Rattle.heco_products.specs.Results.{keys_of, results_file}
use Rattle.heco_run_laws.specs.Results.{results_of}
use Rattle.heco_sources.specs.Inputs.{IsInput}
use Rattle.heco_sources.specs.Sources.{IsSource}
use Rattle.heco_syntax.specs.declared.tree.Source.{Source}
use Rattle.heco_jobs.specs.Done.{IsReadAs}
use Rattle.heco_jobs.specs.Outsides.{Files}
use Rattle.heco_jobs.specs.Words.{name_of}
use Rattle.heco_exec.specs.ExecTask.{IsKeyMaterialOf, IsEncryptionMaterialOf}

module _ (words : List (List ℕ)) where
  -- the name is none of these words'
  abbrev pub IsOther : List ℕ → List ℕ → Type 0
  IsOther name [] = Unit {0}
  IsOther name (which ∷ more) = (name ≢ name_of words which) × IsOther name more

  -- no two of these words have one name
  abbrev pub AreApart : List ℕ → Type 0
  AreApart [] = Unit {0}
  AreApart (which ∷ more) = IsOther (name_of words which) more × AreApart more

  -- SRC is read as this source, which is accepted; IN as values of its inputs; KMAT and EMAT as material within bounds for it
  pub record AreGiven (file : Files) (source : Source) (values : Values) (keys : KeyLists) (material : List EncRow) : Type 0 where
    pub src : IsReadAs words file 1 IsSource source
    pub accepted : IsAccepted source
    pub inputs : IsReadAs words file 2 (IsInput source) values
    pub kmat : IsReadAs words file 3 (IsKeyMaterialOf source) keys
    pub emat : IsReadAs words file 4 (IsEncryptionMaterialOf source) material

  -- of what was given: CIR spells what the passes make of a circuit of the source, which is good for it and gathered, and that
  -- is good for it too, and the passes are left so; SEC and EVA are the keys that are made for it of the key material, CTS the
  -- inputs that are encrypted by EVA and the encryption material, RES the result of the circuit's run on CTS with EVA; all other
  -- files stand; and what was printed is what decrypting RES with SEC prints, and exactly what the source's execution on the
  -- values prints
  pub record IsExecuted (handed left : List Handed) (file file' : Files) (printed : List ℕ) : Type 0 where
    pub source : Source
    pub values : Values
    pub keys : KeyLists
    pub material : List EncRow
    pub given : AreGiven file source values keys material
    pub circuit : Circuit
    pub of_source : IsPassedOf source handed circuit left
    pub cir : file' (name_of words 5) ≡ Some (circuit_text circuit)
    pub sec : file' (name_of words 6) ≡ Some (secret_file (preset_of circuit.preset) keys)
    pub eva : file' (name_of words 7) ≡ Some (evaluation_file (preset_of circuit.preset) circuit keys)
    pub cts : let p = preset_of circuit.preset in file' (name_of words 8) ≡ Some (inputs_file p (circuit_key p circuit keys) material values.rows)
    pub res : let p = preset_of circuit.preset in let key = circuit_key p circuit keys in
        file' (name_of words 9) ≡ Some (results_file p circuit key (encrypted_inputs p key material values.rows))
    pub others : (name : List ℕ) → IsOther name (5 ∷ 6 ∷ 7 ∷ 8 ∷ 9 ∷ []) → file' name ≡ file name
    pub decrypted : let p = preset_of circuit.preset in let key = circuit_key p circuit keys in
        printed ≡ outputs_text p circuit keys.s (results_of p (keys_of key) circuit (encrypted_inputs p key material values.rows))
    pub plain : IsPlainText source values.rows printed
