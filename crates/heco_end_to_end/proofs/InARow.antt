-- What commands that come one after the other read is what those before them gave.
use Rattle.std.proofs.Common.{◌≡◌, ◌∙◌, ℕ, ◌<◌, ◌^◌, List, length, map, Ok, Result, refl, sym, ap, subst, arith}
use Rattle.std.specs.Prelude.{codes}
use Rattle.std.proofs.lemmas.List.Sums.{count_by-le-length}
use lib.IntN.{ℤ}
use Rattle.heco_nums.specs.Presets.{slots_of}
use Rattle.heco_nums.specs.declared.preset.Preset.{Preset}
use Rattle.heco_ciphertext_files.specs.CiphertextFiles.{AreCiphertexts, file_text, magic_of}
use Rattle.heco_ciphertext_files.specs.declared.kind.FileKind.TheVariants.{Cts, Res}
use Rattle.heco_ciphertext_files.proofs.Files.{own_file}
use Rattle.heco_circuit.specs.Circuits.{IsCircuit}
use Rattle.heco_circuit.specs.Needs.{needs_relin, needed_turns}
use Rattle.heco_circuit.specs.Plans.{Plan as Circuit, shape_of}
use Rattle.heco_circuit.proofs.Rising.{needed_amounts, needed_rising}
use Rattle.heco_key_files.specs.KeyFiles.{EvalLists, AreEvalLists, evaluation, eval_text, lists_text, secret_text}
use Rattle.heco_key_files.proofs.EvalLaws.{preset_law}
use Rattle.heco_key_files.proofs.Judged.{own_text}
use Rattle.heco_key_files.proofs.MadeEvaluation.{made_evaluation}
use Rattle.heco_lists.specs.ListFormat.{sparse, bytes_text}
use Rattle.heco_lists.proofs.ListLaws.{sparse_law}
use Rattle.heco_material.specs.KeyLists.{KeyLists}
use Rattle.heco_material.specs.declared.words.EncRow.{EncRow}
use Rattle.heco_meaning.specs.Meanings.{meaning_of}
use Rattle.heco_products.specs.Decrypting.{output_wires, output_wire_count, outputs_text}
use Rattle.heco_products.specs.Encrypting.{encrypted_inputs, messages_file}
use Rattle.heco_products.proofs.CircuitFacts.{few_inputs, few_gates}
use Rattle.heco_products.proofs.Products.{marked_long}
use Rattle.heco_nums.specs.MaterialBounds.{IsSparse}
use Rattle.heco_nums.proofs.PresetFacts.{some_slots}
use Rattle.heco_texts.specs.Outputs.{output_text}
use Rattle.heco_run_laws.specs.Messages.{input_message}
use Rattle.heco_run_laws.specs.Results.{results_of}
use Rattle.heco_run_laws.specs.Runs.{Ciphertext}
use Rattle.heco_products.specs.KeyProducts.{circuit_key, evaluation_file}
use Rattle.heco_products.specs.Results.{keys_of, results_file}
use Rattle.heco_end_to_end.specs.EndToEnd.{IsRunnable}
use Rattle.heco_end_to_end.specs.InARow.{AreReadInARow, MadeKeysAreRead, PrintsTheMeaningInARow}
use Rattle.heco_end_to_end.proofs.DecryptedRuns.{many_rows, prints_the_meaning, results_are_ciphertexts, runs_are_read}

-- a file that is there
abbrev there : List ℕ → Result (List ℕ) ℕ
there bytes = Ok bytes

one_evaluation : (p : Preset) (a b : EvalLists) → AreEvalLists p.n p.slots a → AreEvalLists p.n p.slots b → eval_text p.id a ≡ eval_text p.id b → a ≡ b
unfolding eval_text
one_evaluation p a b x y = own_text (codes "HEVA") p.id (evaluation p.n p.slots) lists_text (AreEvalLists p.n p.slots) (preset_law p) a (there (eval_text p.id a)) p.row.0 p.row.1 refl b x y

one_secret : (p : Preset) (a b : List ℤ) → IsSparse p.n p.h a → IsSparse p.n p.h b → secret_text p.id a ≡ secret_text p.id b → a ≡ b
unfolding secret_text
one_secret p a b x y = own_text (codes "HSEC") p.id (sparse p.n p.h) bytes_text (IsSparse p.n p.h) (sparse_law p.n p.h) a (there (secret_text p.id a)) p.row.0 p.row.1 refl b x y

one_list : (p : Preset) (magic : List ℕ) (count : ℕ) (a b : List Ciphertext) → count < 2 ^ 32 → AreCiphertexts p.n count a → AreCiphertexts p.n count b → file_text magic p.id a ≡ file_text magic p.id b → a ≡ b
one_list p magic count a b few x y =
    own_file magic p.id p.n a (there (file_text magic p.id a)) p.row.0 p.row.1 refl (omega (arith, x.count)) (subst (λ m. AreCiphertexts p.n m a) (sym x.count) x) b (omega (arith, y.count)) (subst (λ m. AreCiphertexts p.n m b) (sym y.count) y)

few_results : (c : Circuit) → IsCircuit c → output_wire_count c < 2 ^ 32
unfolding output_wire_count
few_results c valid = omega (arith, count_by-le-length (λ b. b) (output_wires c), marked_long c, few_inputs c valid, few_gates c valid)

-- ---- the keys

pub made_keys_read : MadeKeysAreRead
made_keys_read p c k id keys = made_evaluation p.n p.h p.b p.slots (needs_relin c) (needed_turns c) k
    (record {
      rising = needed_rising c;
      amounts = needed_amounts c p.slots (ap slots_of (sym id) ∙ sym p.row.3) (some_slots p);
    })
    keys

-- ---- one command after the other

module _ (p : Preset) (c : Circuit) (k : KeyLists) (material : List EncRow) (rows : List (List ℕ)) (runs : IsRunnable p c k material rows) where
  encrypted : AreCiphertexts p.n (length c.inputs) (encrypted_inputs p (circuit_key p c k) material rows)
  encrypted = (runs_are_read p c k material (map (input_message p) rows) runs.provided (many_rows p c k material rows runs)).0

  module _ (e : EvalLists) (s : List ℤ) (inputs results : List Ciphertext) (reads : AreReadInARow p c k material rows e s inputs results) where
    same_key : circuit_key p c k ≡ e
    unfolding evaluation_file
    same_key = one_evaluation p (circuit_key p c k) e (made_keys_read p c k runs.provided.preset runs.provided.keys) reads.evaluation reads.evaluation_file

    same_secret : k.s ≡ s
    same_secret = one_secret p k.s s runs.provided.keys.secret reads.secret reads.secret_file

    few : length c.inputs < 2 ^ 32
    few = omega (arith, few_inputs c runs.provided.valid)

    same_inputs : encrypted_inputs p e material rows ≡ inputs
    unfolding messages_file
    same_inputs = one_list p (magic_of Cts) (length c.inputs) (encrypted_inputs p e material rows) inputs few
        (subst (λ key. AreCiphertexts p.n (length c.inputs) (encrypted_inputs p key material rows)) same_key encrypted) reads.ciphertexts reads.ciphertexts_file

    same_results : results_of p (keys_of e) c inputs ≡ results
    unfolding results_file
    same_results = one_list p (magic_of Res) (output_wire_count c) (results_of p (keys_of e) c inputs) results (few_results c runs.provided.valid) (results_are_ciphertexts p c e inputs runs.provided.valid reads.ciphertexts) reads.result reads.result_file

    pub in_a_row : outputs_text p c s results ≡ output_text (map shape_of c.outputs) (meaning_of c rows)
    in_a_row =
        ap (outputs_text p c s) (sym (ap (λ key. results_of p (keys_of key) c (encrypted_inputs p key material rows)) same_key ∙ ap (results_of p (keys_of e) c) same_inputs ∙ same_results))
        ∙ ap (λ secret. outputs_text p c secret (results_of p (keys_of (circuit_key p c k)) c (encrypted_inputs p (circuit_key p c k) material rows))) (sym same_secret) ∙ prints_the_meaning p c k material rows runs

pub commands_in_a_row : PrintsTheMeaningInARow
commands_in_a_row p c k material rows e s inputs results runs reads = in_a_row p c k material rows runs e s inputs results reads
