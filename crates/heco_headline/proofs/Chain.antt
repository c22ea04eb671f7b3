-- The chain from a source to what is decrypted.
use Rattle.std.proofs.Common.{◌≡◌, ◌∙◌, ℕ, List, Ok, map, sym, ap, subst}
use Rattle.heco_nums.specs.Presets.{modulus_of}
use Rattle.heco_nums.specs.declared.preset.Preset.{Preset}
use Rattle.heco_nums.specs.declared.shape.Shape.{Shape}
use Rattle.heco_nums.specs.declared.shape.Values.{Values}
use Rattle.heco_circuit.specs.Plans.{Plan as Circuit, shape_of}
use Rattle.heco_material.specs.KeyLists.{KeyLists}
use Rattle.heco_material.specs.declared.words.EncRow.{EncRow}
use Rattle.heco_meaning.specs.Meanings.{meaning_of}
use Rattle.heco_products.proofs.CircuitFacts.{own_names}
use Rattle.heco_products.specs.Decrypting.{outputs_text}
use Rattle.heco_sources.specs.Inputs.{input_shapes}
use Rattle.heco_syntax.specs.declared.tree.Source.{Source}
use Rattle.heco_texts.specs.Answers.{HaveFit, HaveOwnNames}
use Rattle.heco_texts.specs.Outputs.{output_text}
use Rattle.heco_texts.proofs.FitLaws.{fits}
use Rattle.heco_end_to_end.specs.EndToEnd.{IsRunnable, run_result}
use Rattle.heco_end_to_end.proofs.DecryptedRuns.{prints_the_meaning}
use Rattle.heco_good.specs.Good.{Good, modulus}
use Rattle.heco_headline.specs.Headline.{IsChain, IsPlainText, printed}

-- a good circuit that can be run prints what its source's execution prints
module _ (source : Source) (c : Circuit) (p : Preset) (rows : List (List ℕ)) (k : KeyLists) (material : List EncRow) (good : Good source c) (runs : IsRunnable p c k material rows) where
  modulus_is : modulus source ≡ p.t
  modulus_is = sym (p.row.4 ∙ ap modulus_of (runs.provided.preset ∙ good.preset))

  source_fit : HaveFit (modulus source) (input_shapes source) rows
  source_fit = subst (λ shapes. HaveFit (modulus source) shapes rows) good.inputs (subst (λ t. HaveFit t c.inputs rows) (sym modulus_is) runs.fit)

  -- the text of the circuit's meaning is that of the source's execution
  pub plain_of_meaning : (text : List ℕ) → text ≡ output_text (map shape_of c.outputs) (meaning_of c rows) → IsPlainText source rows text
  plain_of_meaning text means = record {
    outputs = meaning_of c rows;
    executed = good.meaning rows source_fit;
    is = means ∙ ap (λ (shapes : List Shape). output_text shapes (meaning_of c rows)) good.outputs;
  }

  pub plain_run : IsPlainText source rows (outputs_text p c k.s (run_result p c k material rows))
  plain_run = plain_of_meaning (outputs_text p c k.s (run_result p c k material rows)) (prints_the_meaning p c k material rows runs)

module _ (source : Source) (c : Circuit) (p : Preset) (input : List ℕ) (v : Values) (k : KeyLists) (material : List EncRow) (chain : IsChain source c p input v k material) where
  own : HaveOwnNames (input_shapes source)
  own = subst HaveOwnNames chain.good.inputs (own_names c chain.good.valid)

  fit : HaveFit (modulus source) (input_shapes source) v.rows
  fit = fits (modulus source) (input_shapes source) input (Ok v) own chain.values

  same_modulus : modulus source ≡ p.t
  same_modulus = sym (p.row.4 ∙ ap modulus_of (chain.preset ∙ chain.good.preset))

  pub runs : IsRunnable p c k material v.rows
  runs = record {
    provided = record { preset = chain.preset; valid = chain.good.valid; keys = chain.keys; words = chain.words };
    fit = subst (λ t. HaveFit t c.inputs v.rows) same_modulus (subst (λ shapes. HaveFit (modulus source) shapes v.rows) (sym chain.good.inputs) fit);
  }

  pub plain : IsPlainText source v.rows (printed p c k material v)
  plain = plain_run source c p v.rows k material chain.good runs
