-- The headline, over definitions alone: what a good circuit prints under encryption is what its source prints in the clear.
use Rattle.std.specs.Prelude.{◌≡◌, ℕ, List, Ok, length}
use Rattle.heco_nums.specs.declared.preset.Preset.{Preset}
use Rattle.heco_circuit.specs.Plans.{Plan as Circuit}
use Rattle.heco_eval.specs.Typed.{outputs_of}
use Rattle.heco_material.specs.KeyLists.{KeyLists, IsKeyMaterial, IsEncMaterial}
use Rattle.heco_material.specs.declared.words.EncRow.{EncRow}
use Rattle.heco_nums.specs.declared.shape.Values.{Values}
use Rattle.heco_products.specs.Decrypting.{outputs_text}
use Rattle.heco_sources.specs.Inputs.{output_shapes, IsInput}
use Rattle.heco_syntax.specs.declared.tree.Source.{Source}
use Rattle.heco_texts.specs.Outputs.{output_text}
use Rattle.heco_circuit.specs.Needs.{needed_keys}
use Rattle.heco_end_to_end.specs.EndToEnd.{IsRunnable, run_result}
use Rattle.heco_good.specs.Good.{Good}

-- the text of the lists that the source's execution on these rows gives
pub record IsPlainText (source : Source) (rows : List (List ℕ)) (text : List ℕ) : Type 0 where
  pub outputs : List (List ℕ)
  pub executed : outputs_of source rows ≡ Ok outputs
  pub is : text ≡ output_text (output_shapes source) outputs

-- a good circuit of a source, values that a text gives to the source's inputs, and key and encryption material within bounds
pub record IsChain (source : Source) (c : Circuit) (p : Preset) (text : List ℕ) (v : Values) (k : KeyLists) (material : List EncRow) : Type 0 where
  pub good : Good source c
  pub preset : p.id ≡ c.preset
  pub values : IsInput source text v
  pub keys : IsKeyMaterial p.n p.h p.b (needed_keys c) k
  pub words : IsEncMaterial p.n p.h p.b (length c.inputs) material

-- what decrypting the result of the run prints
abbrev pub printed : Preset → Circuit → KeyLists → List EncRow → Values → List ℕ
printed p c k material v = outputs_text p c k.s (run_result p c k material v.rows)

-- the circuit can be run, and what decrypting its result prints is what the source's execution on these values prints
abbrev pub GoodCircuitsPrintThePlainText : Type 0
GoodCircuitsPrintThePlainText =
    (source : Source) (c : Circuit) (p : Preset) (input : List ℕ) (v : Values) (k : KeyLists) (material : List EncRow) → IsChain source c p input v k material
    → IsRunnable p c k material v.rows × IsPlainText source v.rows (printed p c k material v)
