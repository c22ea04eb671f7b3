-- The chain for a good circuit that was chosen after the material was judged.
use Rattle.std.proofs.Common.{◌≡◌, ◌∙◌, ℕ, ◌+◌, ◌&&◌, List, length, Ok, sym, ap, ap₂, subst, if◌then◌else◌, nat_le}
use Rattle.std.proofs.lemmas.Bool.{and_parts, leb-true}
use Rattle.heco_nums.specs.Presets.{degree_of, hamming_weight_of, error_of, slots_of}
use Rattle.heco_nums.specs.declared.preset.Preset.{Preset}
use Rattle.heco_nums.specs.declared.shape.Shape.{Shape}
use Rattle.heco_nums.specs.declared.shape.Values.{Values}
use Rattle.heco_nums.proofs.OnePreset.{row_number_is}
use Rattle.heco_circuit.specs.Circuits.{IsCircuit}
use Rattle.heco_circuit.specs.Plans.{Plan as Circuit, are_inputs, are_vectors, are_gates, are_outputs}
use Rattle.heco_circuit.specs.Validity.{is_between}
use Rattle.heco_execution.specs.Outcomes.{Outcome}
use Rattle.heco_material.specs.KeyLists.{KeyLists, IsKeyMaterial, IsEncMaterial}
use Rattle.heco_material.specs.declared.words.EncRow.{EncRow}
use Rattle.heco_nums.specs.PresetRows.{preset_of}
use Rattle.heco_sources.specs.Inputs.{input_shapes, IsInput}
use Rattle.heco_syntax.specs.declared.tree.Source.{Source}
use Rattle.heco_written.specs.Needs.{turn_amounts}
use Rattle.heco_written.specs.ScalarTerm.{ScalarTerm}
use Rattle.heco_written.specs.WrittenForm.{vectors_of}
use Rattle.heco_circuit.specs.Needs.{needed_keys}
use Rattle.heco_end_to_end.specs.EndToEnd.{IsRunnable}
use Rattle.heco_good.specs.Good.{Good, preset_named, slots, homes_of}
use Rattle.heco_headline.specs.Exec.{written_keys, keys_for, source_keys, IsMaterialFor, text_of}
use Rattle.heco_headline.specs.Headline.{IsChain, IsPlainText}
use Rattle.heco_headline.proofs.Chain as chain

-- ---- the preset of a valid circuit

pub preset_number : (c : Circuit) → IsCircuit c → (preset_of c.preset).id ≡ c.preset
unfolding preset_of
preset_number c valid =
    let behind = and_parts (is_between 1 5 c.preset) (are_inputs c && (are_vectors c && (are_gates c && are_outputs c))) valid.0 in
    let range = and_parts (nat_le 1 c.preset) (nat_le c.preset 5) behind.0 in
    row_number_is c.preset (leb-true 1 c.preset range.0) (leb-true c.preset 5 range.1)

-- ---- the needs of a good circuit are the written ones

abbrev fine : List (List ScalarTerm) → Outcome (List (List ScalarTerm))
fine terms = Ok terms

same_terms : (a b : List (List ScalarTerm)) → fine a ≡ fine b → a ≡ b
same_terms a b e = cc

module _ (source : Source) (c : Circuit) (good : Good source c) where
  written_are_needed : written_keys source good.terms ≡ needed_keys c
  written_are_needed =
      let written : turn_amounts (slots_of c.preset) (vectors_of (homes_of source good.terms)) ≡ turn_amounts (slots source) (vectors_of (homes_of source good.terms)) =
      ap (λ id. turn_amounts (slots_of id) (vectors_of (homes_of source good.terms))) good.preset in
      sym (ap₂ (λ b (turns : List ℕ). (if b then 1 else 0) + length turns) good.thrift.relinearisation_needed (good.thrift.turns_needed ∙ written))

  pub source_keys_are_needed : source_keys source ≡ needed_keys c
  unfolding source_keys
  source_keys_are_needed = ap (keys_for source) good.execution ∙ written_are_needed

module _ (source : Source) (c : Circuit) (k : KeyLists) (material : List EncRow) (good : Good source c) (fits : IsMaterialFor source k material) where
  same_keys : written_keys source fits.terms ≡ needed_keys c
  same_keys = ap (written_keys source) (same_terms fits.terms good.terms (sym fits.execution ∙ good.execution)) ∙ written_are_needed source c good

  -- the numbers of the circuit's preset are those of the source's
  same_number : (f : ℕ → ℕ) (x : ℕ) → x ≡ f (preset_of c.preset).id → f (preset_named source) ≡ x
  same_number f x e = sym (e ∙ ap f (preset_number c good.valid ∙ good.preset))

  keys : let p = preset_of c.preset in IsKeyMaterial p.n p.h p.b (needed_keys c) k
  keys =
      let p : Preset = preset_of c.preset in
      subst (λ count. IsKeyMaterial p.n p.h p.b count k) same_keys
      (subst (λ b. IsKeyMaterial p.n p.h b (written_keys source fits.terms) k) (same_number error_of p.b p.row.6)
      (subst (λ h. IsKeyMaterial p.n h (error_of (preset_named source)) (written_keys source fits.terms) k) (same_number hamming_weight_of p.h p.row.5)
      (subst (λ n. IsKeyMaterial n (hamming_weight_of (preset_named source)) (error_of (preset_named source)) (written_keys source fits.terms) k) (same_number degree_of p.n p.row.2) fits.keys)))

  words : let p = preset_of c.preset in IsEncMaterial p.n p.h p.b (length c.inputs) material
  words =
      let p : Preset = preset_of c.preset in
      subst (λ (shapes : List Shape). IsEncMaterial p.n p.h p.b (length shapes) material) (sym good.inputs)
      (subst (λ b. IsEncMaterial p.n p.h b (length (input_shapes source)) material) (same_number error_of p.b p.row.6)
      (subst (λ h. IsEncMaterial p.n h (error_of (preset_named source)) (length (input_shapes source)) material) (same_number hamming_weight_of p.h p.row.5)
      (subst (λ n. IsEncMaterial n (hamming_weight_of (preset_named source)) (error_of (preset_named source)) (length (input_shapes source)) material) (same_number degree_of p.n p.row.2) fits.words)))

  module _ (text : List ℕ) (v : Values) (input : IsInput source text v) where
    links : IsChain source c (preset_of c.preset) text v k material
    links = record { good = good; preset = preset_number c good.valid; values = input; keys = keys; words = words }

    pub runs : IsRunnable (preset_of c.preset) c k material v.rows
    runs = chain.runs source c (preset_of c.preset) text v k material links

    pub plain : IsPlainText source v.rows (text_of c k material v.rows)
    unfolding text_of
    plain = chain.plain source c (preset_of c.preset) text v k material links
