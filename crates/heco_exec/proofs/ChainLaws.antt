-- What a good circuit yields, and what its steps need.
use Rattle.std.proofs.Common.{◌≡◌, ◌∙◌, ℕ, List, [], ◌∷◌, length, ap, subst, map}
use Rattle.std.specs.Prelude.{All, ℤ}
use Rattle.heco_ciphertext_files.specs.CiphertextFiles.{AreCiphertexts}
use Rattle.heco_circuit.specs.Circuits.{IsCircuit}
use Rattle.heco_circuit.specs.Plans.{Plan as Circuit}
use Rattle.heco_end_to_end.specs.EndToEnd.{IsProvided, IsRunnable, messages_result}
use Rattle.heco_end_to_end.proofs.DecryptedRuns.{runs_are_read, many_rows}
use Rattle.heco_good.specs.Compiled.{IsPassedOf}
use Rattle.heco_headline.specs.Exec.{text_of}
use Rattle.heco_headline.proofs.Chain.{plain_run}
use Rattle.heco_headline.proofs.ExecLaw.{preset_number}
use Rattle.heco_key_files.specs.KeyFiles.{EvalLists}
use Rattle.heco_texts.specs.Answers.{HaveFit}
use Rattle.heco_material.specs.KeyLists.{KeyLists, IsEncMaterial, lists_of}
use Rattle.heco_material.specs.declared.words.EncRow.{EncRow}
use Rattle.heco_material.specs.declared.words.KeyWords.{KeyWords}
use Rattle.heco_nums.specs.declared.preset.Preset.{Preset}
use Rattle.heco_nums.specs.declared.shape.Values.{Values}
use Rattle.heco_products.specs.Encrypting.{encrypted_inputs, encrypted_messages}
use Rattle.heco_products.specs.KeyProducts.{circuit_key}
use Rattle.heco_nums.specs.PresetRows.{preset_of}
use Rattle.heco_products.specs.Results.{keys_of}
use Rattle.heco_run_laws.specs.Messages.{input_message}
use Rattle.heco_run_laws.specs.Results.{results_of}
use Rattle.heco_run_laws.specs.Runs.{Ciphertext}
use Rattle.heco_syntax.specs.declared.tree.Source.{Source}
use Rattle.heco_jobs.specs.Agents.{Agents}
use Rattle.heco_jobs.specs.declared.product.Product.{Product}
use Rattle.heco_tasks.specs.Running.{Leads}
use Rattle.heco_exec.specs.Chain.{AreKeysFor, Yields, numbered, run_files}
use Rattle.heco_exec.specs.ExecTask.{Executes}

pub all_two : (n count : ℕ) (cs : List (List (List ℕ))) → AreCiphertexts n count cs → All (λ c. length c ≡ 2) cs
all_two n count cs h i d lt = (h.each i d lt).two

pub same_five : (which : ℕ) (a b c d e a' b' c' d' e' : List ℕ) → a ≡ a' → b ≡ b' → c ≡ c' → d ≡ d' → e ≡ e' → numbered which (a ∷ b ∷ c ∷ d ∷ e ∷ []) ≡ numbered which (a' ∷ b' ∷ c' ∷ d' ∷ e' ∷ [])
same_five which a b c d e a' b' c' d' e' ea eb ec ed ee = λ i. numbered which (ea i ∷ eb i ∷ ec i ∷ ed i ∷ ee i ∷ [])

-- ---- of any messages

-- these are a preset, a secret, an evaluation key and encrypted messages as they come of the circuit and the material
pub record IsMade (p : Preset) (c : Circuit) (k : KeyLists) (material : List EncRow) (messages : List (List ℕ)) (q : Preset) (s : List ℤ) (e : EvalLists) (inputs : List Ciphertext) : Type 0 where
  pub preset : q ≡ p
  pub secret : s ≡ k.s
  pub lists : e ≡ circuit_key p c k
  pub encrypted : inputs ≡ encrypted_messages p (circuit_key p c k) material messages

-- so the files and the result of the run are those of the material and the messages
module _ (p : Preset) (c : Circuit) (k : KeyLists) (material : List EncRow) (messages : List (List ℕ)) (q : Preset) (s : List ℤ) (e : EvalLists) (inputs : List Ciphertext) (made : IsMade p c k material messages q s e inputs) where
  pub made_files : run_files q c s e inputs ≡ run_files p c k.s (circuit_key p c k) (encrypted_messages p (circuit_key p c k) material messages)
  made_files =
      ap (λ x. run_files x c s e inputs) made.preset ∙ ap (λ x. run_files p c x e inputs) made.secret ∙ ap (λ x. run_files p c k.s x inputs) made.lists
      ∙ ap (run_files p c k.s (circuit_key p c k)) made.encrypted

  pub made_result : results_of q (keys_of e) c inputs ≡ messages_result p c k material messages
  made_result =
      ap (λ x. results_of x (keys_of e) c inputs) made.preset ∙ ap (λ x. results_of p (keys_of x) c inputs) made.lists ∙ ap (results_of p (keys_of (circuit_key p c k)) c) made.encrypted

-- encrypted messages, one for each input, are ciphertexts of two parts
pub messages_are : (p : Preset) (c : Circuit) (k : KeyLists) (material : List EncRow) (messages : List (List ℕ)) → IsProvided p c k material → length messages ≡ length c.inputs
    → AreCiphertexts p.n (length c.inputs) (encrypted_messages p (circuit_key p c k) material messages)
messages_are p c k material messages given many = (runs_are_read p c k material messages given many).0

-- ---- of values

-- values that were encrypted by the key that was made of the material
pub made_inputs : (p : Preset) (c : Circuit) (k : KeyLists) (material : List EncRow) (rows : List (List ℕ)) (q : Preset) (e : EvalLists) (inputs : List Ciphertext) → q ≡ p → e ≡ circuit_key p c k → inputs ≡ encrypted_inputs q e material rows
    → inputs ≡ encrypted_inputs p (circuit_key p c k) material rows
made_inputs p c k material rows q e inputs preset lists is = is ∙ ap (λ x. encrypted_inputs x e material rows) preset ∙ ap (λ x. encrypted_inputs p x material rows) lists

-- the encrypted inputs of what can be run are ciphertexts of two parts
pub inputs_are : (p : Preset) (c : Circuit) (k : KeyLists) (material : List EncRow) (rows : List (List ℕ)) → IsRunnable p c k material rows
    → AreCiphertexts p.n (length c.inputs) (encrypted_inputs p (circuit_key p c k) material rows)
inputs_are p c k material rows runs = messages_are p c k material (map (input_message p) rows) runs.provided (many_rows p c k material rows runs)

-- a valid circuit, key words for it, material for so many inputs and values that fit can be run
pub can_run : (c : Circuit) (k : KeyWords) (q : Preset) (n : ℕ) (material : List EncRow) (rows : List (List ℕ)) → IsCircuit c → AreKeysFor c k → q ≡ preset_of c.preset → n ≡ length c.inputs
    → IsEncMaterial q.n q.h q.b n material → HaveFit (preset_of c.preset).t c.inputs rows → IsRunnable (preset_of c.preset) c (lists_of k) material rows
can_run c k q n material rows valid keys whole many within fit = record {
  provided = record {
    preset = preset_number c valid;
    valid = valid;
    keys = keys.within;
    words = subst (λ (p : Preset). IsEncMaterial p.n p.h p.b (length c.inputs) material) whole (subst (λ m. IsEncMaterial q.n q.h q.b m material) many within);
  };
  fit = fit;
}

pub executes : (agents left : Agents) (s : Source) (c : Circuit) (v : Values) (k : KeyLists) (material : List EncRow) (p : Product) → IsPassedOf s agents.passes c left.passes → IsRunnable (preset_of c.preset) c k material v.rows
    → Yields c k material v.rows p → Leads c agents.picker left.picker → Executes agents s v k material p left
unfolding text_of
executes agents left s c v k material p of_source runs yields leads =
    record { circuit = c; of_source = of_source; yields = yields; plain = plain_run s c (preset_of c.preset) v.rows k material of_source.good runs; leads = leads }
