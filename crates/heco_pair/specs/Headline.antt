-- What `pair` has done where it is done.
use Rattle.std.specs.Prelude.{◌≡◌, ℕ, List, [], ◌∷◌, Some}
use Rattle.heco_circuit.specs.CircuitFormat.{circuit_text}
use Rattle.heco_circuit.specs.Plans.{Plan as Circuit}
use Rattle.heco_good.specs.Accepted.{IsAccepted}
use Rattle.heco_good.specs.Compiled.{IsPassedOf}
use Rattle.heco_headline.specs.Headline.{IsPlainText}
use Rattle.heco_material.specs.KeyLists.{KeyLists}
use Rattle.heco_material.specs.declared.words.EncRow.{EncRow}
use Rattle.heco_nums.specs.declared.shape.Values.{Values}
use Rattle.heco_peep.specs.Rules.{Handed}
use Rattle.heco_products.specs.Decrypting.{row_text}
use Rattle.heco_products.specs.Encrypting.{encrypted_pairs, pairs_file}
use Rattle.heco_products.specs.KeyProducts.{circuit_key, evaluation_file, secret_file}
use Rattle.heco_nums.specs.PresetRows.{preset_of}
use Rattle.heco_products.specs.Results.{keys_of, results_file}
use Rattle.heco_run_laws.specs.Results.{results_of}
use Rattle.heco_slots.specs.Rows.{first_row, second_row}
use Rattle.heco_sources.specs.Inputs.{IsInput}
use Rattle.heco_sources.specs.Sources.{IsSource}
use Rattle.heco_syntax.specs.declared.tree.Source.{Source}
use Rattle.heco_jobs.specs.Done.{IsReadAs}
use Rattle.heco_jobs.specs.Outsides.{Files}
use Rattle.heco_jobs.specs.Words.{name_of}
use Rattle.heco_exec.specs.ExecTask.{IsKeyMaterialOf, IsEncryptionMaterialOf}
use Rattle.heco_exec.specs.Headline.{IsOther}

module _ (words : List (List ℕ)) where
  -- SRC is read as this source, which is accepted; IN and IN2 each as values of its inputs; KMAT and EMAT as material within bounds for it
  pub record ArePairGiven (file : Files) (source : Source) (first second : Values) (keys : KeyLists) (material : List EncRow) : Type 0 where
    pub src : IsReadAs words file 1 IsSource source
    pub accepted : IsAccepted source
    pub first_inputs : IsReadAs words file 2 (IsInput source) first
    pub second_inputs : IsReadAs words file 3 (IsInput source) second
    pub kmat : IsReadAs words file 4 (IsKeyMaterialOf source) keys
    pub emat : IsReadAs words file 5 (IsEncryptionMaterialOf source) material

  -- of what was given: CIR spells what the passes make of a circuit of the source, which is good for it and gathered, and that
  -- is good for it too, and the passes are left so; SEC and EVA are the keys that are made for it of the key material, CTS the
  -- inputs that are encrypted by EVA and the encryption material, the values of IN in the first row and those of IN2 in the
  -- second, RES the result of the circuit's run on CTS with EVA; all other files stand; and of both texts that were printed the
  -- first is what decrypting RES with SEC prints of the first row, and exactly what the source's execution on the values of IN
  -- prints, and the second is the same of the second row and of IN2
  pub record IsPaired (handed left : List Handed) (file file' : Files) (first_printed second_printed : List ℕ) : Type 0 where
    pub source : Source
    pub first : Values
    pub second : Values
    pub keys : KeyLists
    pub material : List EncRow
    pub given : ArePairGiven file source first second keys material
    pub circuit : Circuit
    pub of_source : IsPassedOf source handed circuit left
    pub cir : file' (name_of words 6) ≡ Some (circuit_text circuit)
    pub sec : file' (name_of words 7) ≡ Some (secret_file (preset_of circuit.preset) keys)
    pub eva : file' (name_of words 8) ≡ Some (evaluation_file (preset_of circuit.preset) circuit keys)
    pub cts : let p = preset_of circuit.preset in file' (name_of words 9) ≡ Some (pairs_file p (circuit_key p circuit keys) material first.rows second.rows)
    pub res : let p = preset_of circuit.preset in let key = circuit_key p circuit keys in
        file' (name_of words 10) ≡ Some (results_file p circuit key (encrypted_pairs p key material first.rows second.rows))
    pub others : (name : List ℕ) → IsOther words name (6 ∷ 7 ∷ 8 ∷ 9 ∷ 10 ∷ []) → file' name ≡ file name
    pub first_decrypted : let p = preset_of circuit.preset in let key = circuit_key p circuit keys in
        first_printed ≡ row_text p first_row circuit keys.s (results_of p (keys_of key) circuit (encrypted_pairs p key material first.rows second.rows))
    pub second_decrypted : let p = preset_of circuit.preset in let key = circuit_key p circuit keys in
        second_printed ≡ row_text p (second_row p) circuit keys.s (results_of p (keys_of key) circuit (encrypted_pairs p key material first.rows second.rows))
    pub first_plain : IsPlainText source first.rows first_printed
    pub second_plain : IsPlainText source second.rows second_printed
