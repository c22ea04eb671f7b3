-- Key material for a circuit's needs, the keys that are made of it, and material that is judged by the source alone.
use Rattle.std.proofs.Common.{◌≡◌, ◌∙◌, ℕ, List, length, sym, ap, subst, Result}
use Rattle.heco_circuit.specs.Circuits.{IsCircuit}
use Rattle.heco_circuit.specs.Needs.{needs_relin, needed_turns, needed_keys}
use Rattle.heco_circuit.specs.Plans.{Plan as Circuit}
use Rattle.heco_good.specs.Good.{Good, modulus}
use Rattle.heco_headline.specs.Exec.{source_keys}
use Rattle.heco_headline.proofs.ExecLaw.{source_keys_are_needed, preset_number}
use Rattle.heco_key_files.specs.KeyFiles.{EvalLists, made_key}
use Rattle.heco_keys.specs.Amounts.{AreAmounts}
use Rattle.heco_material.specs.KeyLists.{KeyLists, key_count, lists_of, IsKeyMaterial}
use Rattle.heco_material.specs.declared.words.EncRow.{EncRow}
use Rattle.heco_material.specs.declared.words.KeyWords.{KeyWords}
use Rattle.heco_nums.specs.Presets.{modulus_of}
use Rattle.heco_nums.specs.declared.needs.KeyNeeds.{KeyNeeds}
use Rattle.heco_nums.specs.declared.preset.Preset.{Preset}
use Rattle.heco_nums.specs.declared.shape.Shape.{Shape}
use Rattle.heco_nums.specs.declared.shape.Values.{Values}
use Rattle.heco_outside.specs.declared.store.Store as store
use Rattle.heco_products.specs.KeyProducts.{circuit_key}
use Rattle.heco_nums.specs.PresetRows.{preset_of}
use Rattle.heco_sources.specs.Inputs.{input_shapes, IsInput}
use Rattle.heco_syntax.specs.declared.tree.Source.{Source}
use Rattle.heco_texts.specs.Answers.{IsRead}
use Rattle.heco_jobs.specs.Stages.{IsThingRead}
use Rattle.heco_jobs.specs.declared.outcome.Outcome.{Outcome}
use Rattle.heco_jobs.specs.declared.outcome.Refusal.{Refusal}
use Rattle.heco_reads.specs.MaterialFiles.{SpellsKeys, IsKeysRefusal, SpellsEncryptions, IsEncryptionsRefusal}
use Rattle.heco_tasks.proofs.KeyLaws.{count_is, material_amounts}
use Rattle.heco_exec.specs.Chain.{AreKeysFor}
use Rattle.heco_exec.specs.ExecTask.{IsKeyMaterialOf, IsNoKeyMaterialIn, IsEncryptionMaterialOf, IsNoEncryptionMaterialIn}

-- ---- key words for a circuit

pub keys_for_circuit : (c : Circuit) (q : Preset) (k : KeyWords) → k.preset ≡ q → q ≡ preset_of c.preset → k.needs.relin ≡ needs_relin c → k.needs.turns ≡ needed_turns c
    → IsKeyMaterial k.preset.n k.preset.h k.preset.b (key_count k.needs) (lists_of k) → AreKeysFor c k
keys_for_circuit c q k kept whole relin turns within = record {
  preset = kept ∙ whole;
  relin = relin;
  turns = turns;
  within = subst (λ (p : Preset). IsKeyMaterial p.n p.h p.b (needed_keys c) (lists_of k)) (kept ∙ whole)
      (subst (λ n. IsKeyMaterial k.preset.n k.preset.h k.preset.b n (lists_of k)) (count_is c k.needs relin turns) within);
}

pub material_of : (c : Circuit) (k : KeyWords) → AreKeysFor c k → IsKeyMaterial k.preset.n k.preset.h k.preset.b (key_count k.needs) (lists_of k)
material_of c k h =
    let p : Preset = preset_of c.preset in
    subst (λ (q : Preset). IsKeyMaterial q.n q.h q.b (key_count k.needs) (lists_of k)) (sym h.preset)
    (subst (λ n. IsKeyMaterial p.n p.h p.b n (lists_of k)) (sym (count_is c k.needs h.relin h.turns)) h.within)

pub amounts_of : (c : Circuit) (k : KeyWords) → IsCircuit c → AreKeysFor c k → AreAmounts k.preset.slots k.needs.turns
amounts_of c k valid h = material_amounts c k.preset k.needs.turns (ap (λ (p : Preset). p.id) h.preset ∙ preset_number c valid) h.turns

pub circuit_key_is : (c : Circuit) (k : KeyWords) (e : EvalLists) → AreKeysFor c k → e ≡ made_key k.preset.n k.needs.relin k.needs.turns (lists_of k) → e ≡ circuit_key (preset_of c.preset) c (lists_of k)
circuit_key_is c k e h is =
    is ∙ ap (λ (p : Preset). made_key p.n k.needs.relin k.needs.turns (lists_of k)) h.preset
    ∙ ap (λ r. made_key (preset_of c.preset).n r k.needs.turns (lists_of k)) h.relin
    ∙ ap (λ ts. made_key (preset_of c.preset).n (needs_relin c) ts (lists_of k)) h.turns

-- ---- what is judged for a good circuit is judged for its source

module _ {S : Type 0} (st : store.Ghosts S) (words : List (List ℕ)) (s : Source) (c : Circuit) (good : Good s c) (q : Preset) (old new : S) where
  pub keys_judged : (which : ℕ) (needs : KeyNeeds) (result : Result KeyLists Outcome) → q ≡ preset_of c.preset → needs.relin ≡ needs_relin c → needs.turns ≡ needed_turns c
      → IsThingRead st words which (SpellsKeys q (key_count needs)) (IsKeysRefusal which q (key_count needs)) old new result
      → IsThingRead st words which (IsKeyMaterialOf s) (IsNoKeyMaterialIn which s) old new result
  keys_judged which needs result whole relin turns read =
      let count : key_count needs ≡ source_keys s = count_is c needs relin turns ∙ sym (source_keys_are_needed s c good) in
      subst (λ p. IsThingRead st words which (SpellsKeys p (source_keys s)) (IsKeysRefusal which p (source_keys s)) old new result) (whole ∙ ap preset_of good.preset)
      (subst (λ n. IsThingRead st words which (SpellsKeys q n) (IsKeysRefusal which q n) old new result) count read)

  pub encryptions_judged : (which n : ℕ) (result : Result (List EncRow) Outcome) → q ≡ preset_of c.preset → n ≡ length c.inputs
      → IsThingRead st words which (SpellsEncryptions q n) (IsEncryptionsRefusal which q n) old new result
      → IsThingRead st words which (IsEncryptionMaterialOf s) (IsNoEncryptionMaterialIn which s) old new result
  encryptions_judged which n result whole many read =
      let count : n ≡ length (input_shapes s) = many ∙ ap (λ (shapes : List Shape). length shapes) good.inputs in
      subst (λ p. IsThingRead st words which (SpellsEncryptions p (length (input_shapes s))) (IsEncryptionsRefusal which p (length (input_shapes s))) old new result) (whole ∙ ap preset_of good.preset)
      (subst (λ m. IsThingRead st words which (SpellsEncryptions q m) (IsEncryptionsRefusal which q m) old new result) count read)

  -- of a text of inputs, however it is refused
  pub inputs_judged : (which : ℕ) (Refuses : ℕ → List Shape → List ℕ → Refusal → Type 0) (shapes : List Shape) (result : Result Values Outcome) → q.id ≡ c.preset → shapes ≡ c.inputs
      → IsThingRead st words which (IsRead q.t shapes) (Refuses q.t shapes) old new result → IsThingRead st words which (IsInput s) (Refuses (modulus s) (input_shapes s)) old new result
  inputs_judged which Refuses shapes result id same read =
      let t_is : q.t ≡ modulus s = q.row.4 ∙ ap modulus_of (id ∙ good.preset) in
      subst (λ t. IsThingRead st words which (IsRead t (input_shapes s)) (Refuses t (input_shapes s)) old new result) t_is
      (subst (λ x. IsThingRead st words which (IsRead q.t x) (Refuses q.t x) old new result) (same ∙ good.inputs) read)
