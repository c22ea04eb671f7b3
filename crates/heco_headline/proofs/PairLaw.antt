-- Both texts that come of a run on two rows of values.
use Rattle.std.proofs.Common.{◌≡◌, ◌∙◌, ℕ, List, Ok, length, refl, sym, ap, subst, inl, inr}
use Rattle.heco_nums.specs.declared.preset.Preset.{Preset}
use Rattle.heco_nums.specs.declared.shape.Values.{Values}
use Rattle.heco_circuit.specs.Plans.{Plan as Circuit}
use Rattle.heco_execution.specs.Outcomes.{Outcome}
use Rattle.heco_material.specs.KeyLists.{KeyLists}
use Rattle.heco_material.specs.declared.words.EncRow.{EncRow}
use Rattle.heco_products.specs.Decrypting.{row_text}
use Rattle.heco_nums.specs.PresetRows.{preset_of}
use Rattle.heco_products.proofs.Pairs.{rows_fit}
use Rattle.heco_products.proofs.Products.{fit_count}
use Rattle.heco_run_laws.specs.Carried.{two_row_messages}
use Rattle.heco_run_laws.proofs.RowsOfMessages.{first_rows, second_rows, length-two_rows}
use Rattle.heco_slots.specs.Rows.{first_row, second_row}
use Rattle.heco_sources.specs.Inputs.{output_shapes, IsInput}
use Rattle.heco_syntax.specs.declared.tree.Source.{Source}
use Rattle.heco_texts.specs.Outputs.{output_text}
use Rattle.heco_end_to_end.proofs.DecryptedRuns.{rows_print}
use Rattle.heco_good.specs.Good.{Good}
use Rattle.heco_headline.specs.Exec.{IsMaterialFor}
use Rattle.heco_headline.specs.Headline.{IsPlainText}
use Rattle.heco_headline.specs.Pair.{pair_result, first_text, second_text, CanRunBoth, RowsPrintApart}
use Rattle.heco_headline.proofs.Chain.{plain_of_meaning}
use Rattle.heco_headline.proofs.ExecLaw as exec

-- ---- both texts of a good circuit that can be run on both rows

module _ (c : Circuit) (k : KeyLists) (material : List EncRow) (first second : List (List ℕ)) (runs : CanRunBoth c k material first second) where
  same_count : length first ≡ length second
  same_count = fit_count (preset_of c.preset).t c.inputs first runs.on_first.fit ∙ sym (fit_count (preset_of c.preset).t c.inputs second runs.on_second.fit)

  pub many_pairs : length (two_row_messages (preset_of c.preset) first second) ≡ length c.inputs
  many_pairs = length-two_rows (preset_of c.preset) first second same_count ∙ fit_count (preset_of c.preset).t c.inputs first runs.on_first.fit

module _ (source : Source) (c : Circuit) (k : KeyLists) (material : List EncRow) (first second : List (List ℕ)) (good : Good source c) (runs : CanRunBoth c k material first second) where
  many : length (two_row_messages (preset_of c.preset) first second) ≡ length c.inputs
  many = many_pairs c k material first second runs

  same : length first ≡ length second
  same = same_count c k material first second runs

  pub first_plain : IsPlainText source first (first_text c k material first second)
  unfolding first_text
  first_plain =
      let p : Preset = preset_of c.preset in
      let given = runs.on_first.provided in
      plain_of_meaning source c p first k material good runs.on_first (row_text p first_row c k.s (pair_result c k material first second))
      (rows_print p first_row c k material (two_row_messages p first second) first (inl refl) given many (first_rows p first second same (rows_fit p c first given.preset given.valid runs.on_first.fit)))

  pub second_plain : IsPlainText source second (second_text c k material first second)
  unfolding second_text
  second_plain =
      let p : Preset = preset_of c.preset in
      let given = runs.on_second.provided in
      plain_of_meaning source c p second k material good runs.on_second (row_text p (second_row p) c k.s (pair_result c k material first second))
      (rows_print p (second_row p) c k material (two_row_messages p first second) second (inr refl) given many (second_rows p first second same (rows_fit p c second given.preset given.valid runs.on_second.fit)))

-- ---- for material that was judged by the source alone

module _ (source : Source) (c : Circuit) (text other : List ℕ) (v w : Values) (k : KeyLists) (material : List EncRow) (good : Good source c) (input : IsInput source text v) (beside : IsInput source other w) (fits : IsMaterialFor source k material) where
  pub both_run : CanRunBoth c k material v.rows w.rows
  both_run = record { on_first = exec.runs source c k material good fits text v input; on_second = exec.runs source c k material good fits other w beside }

-- ---- one row, whatever the other holds

abbrev gave : List (List ℕ) → Outcome (List (List ℕ))
gave outputs = Ok outputs

same_outputs : (a b : List (List ℕ)) → gave a ≡ gave b → a ≡ b
same_outputs a b e = cc

-- the text of a source's execution is determined
pub one_plain_text : (source : Source) (rows : List (List ℕ)) (a b : List ℕ) → IsPlainText source rows a → IsPlainText source rows b → a ≡ b
one_plain_text source rows a b x y = x.is ∙ ap (output_text (output_shapes source)) (same_outputs x.outputs y.outputs (sym x.executed ∙ y.executed)) ∙ sym y.is

pub rows_print_apart : RowsPrintApart
rows_print_apart source c c' k k' material material' first second first' second' good good' runs runs' = (
  (λ same. one_plain_text source first' (first_text c k material first second) (first_text c' k' material' first' second')
      (subst (λ rows. IsPlainText source rows (first_text c k material first second)) same (first_plain source c k material first second good runs))
      (first_plain source c' k' material' first' second' good' runs')),
  (λ same. one_plain_text source second' (second_text c k material first second) (second_text c' k' material' first' second')
      (subst (λ rows. IsPlainText source rows (second_text c k material first second)) same (second_plain source c k material first second good runs))
      (second_plain source c' k' material' first' second' good' runs')),
)
