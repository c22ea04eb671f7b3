-- What is printed: the line of the one value that the source's execution gives.
use Rattle.std.proofs.Common.{◌≡◌, ◌∙◌, ℕ, List, [], ◌∷◌, ◌++◌, Ok, length, sym, ap, subst, append-nil, codes}
use Rattle.std.specs.Prelude.{decimal}
use Rattle.heco_circuit.specs.Plans.{Plan as Circuit}
use Rattle.heco_end_to_end.specs.EndToEnd.{IsRunnable}
use Rattle.heco_eval.specs.Typed.{outputs_of}
use Rattle.heco_good.specs.Compiled.{IsPassedOf}
use Rattle.heco_good.specs.Good.{Good, modulus}
use Rattle.heco_headline.proofs.Chain.{plain_run}
use Rattle.heco_headline.proofs.ExecLaw.{preset_number}
use Rattle.heco_headline.specs.Exec.{text_of}
use Rattle.heco_headline.specs.Headline.{IsPlainText}
use Rattle.heco_jobs.specs.Agents.{Agents}
use Rattle.heco_jobs.specs.Products.{Prints}
use Rattle.heco_jobs.specs.declared.product.Product.{Product}
use Rattle.heco_nums.specs.Presets.{modulus_of}
use Rattle.heco_nums.specs.declared.shape.Shape.{Shape}
use Rattle.heco_nums.specs.PresetRows.{preset_of}
use Rattle.heco_sample_source.proofs.Sources.{only_tree, gives_one_value, two_rows_fit}
use Rattle.heco_sample_source.proofs.Tree.{tree}
use Rattle.heco_sample_source.specs.SampleText.{sample_text}
use Rattle.heco_sources.specs.Inputs.{input_shapes, output_shapes}
use Rattle.heco_sources.specs.Sources.{IsSource}
use Rattle.heco_syntax.specs.declared.tree.Source.{Source}
use Rattle.heco_tasks.specs.DrawnFiles.{drawn_material}
use Rattle.heco_tasks.specs.Running.{Leads}
use Rattle.heco_texts.specs.Answers.{HaveFit}
use Rattle.heco_texts.specs.Outputs.{output_text}
use Rattle.heco_sample.proofs.DrawnRows.{first_row, second_row}
use Rattle.heco_sample.specs.Drawn.{drawn_rows, drawn_words, decrypted_text}
use Rattle.heco_sample.specs.SampleTask.{Samples}
use Rattle.heco_sample.specs.Summary.{value_line, greatest_bound, summary}

-- ---- the drawn rows fit the source, and each good circuit of it

module _ (s : Source) (is : IsSource sample_text s) where
  pub drawn_fit : (seed : ℕ) → HaveFit (modulus s) (input_shapes s) (drawn_rows seed)
  drawn_fit seed = two_rows_fit s _ _ is (first_row seed) (second_row seed)

  module _ (c : Circuit) (good : Good s c) where
    modulus_is : (preset_of c.preset).t ≡ modulus s
    modulus_is = (preset_of c.preset).row.4 ∙ ap modulus_of (preset_number c good.valid ∙ good.preset)

    pub circuit_fit : (rows : List (List ℕ)) → HaveFit (modulus s) (input_shapes s) rows → HaveFit (preset_of c.preset).t c.inputs rows
    circuit_fit rows fit = subst (λ t. HaveFit t c.inputs rows) (sym modulus_is) (subst (λ (shapes : List Shape). HaveFit (modulus s) shapes rows) (sym good.inputs) fit)

    pub t_is : (preset_of c.preset).t ≡ 65537
    t_is = modulus_is ∙ ap modulus (sym (only_tree s is))

-- ---- its one value

line_of_tree : (v : ℕ) → output_text (output_shapes tree) ((v ∷ []) ∷ []) ≡ value_line v
line_of_tree v = ap (λ (x : List ℕ). codes "s = " ++ x) (append-nil ((decimal v ++ []) ++ codes "\n") ∙ ap (λ (x : List ℕ). x ++ codes "\n") (append-nil (decimal v)))

module _ (s : Source) (is : IsSource sample_text s) (rows : List (List ℕ)) (v : ℕ) (value : outputs_of s rows ≡ Ok ((v ∷ []) ∷ [])) where
  pub line_is : (text : List ℕ) → IsPlainText s rows text → text ≡ value_line v
  line_is text h =
      let two : Ok h.outputs ≡ Ok ((v ∷ []) ∷ []) = sym h.executed ∙ value in
      let same : h.outputs ≡ (v ∷ []) ∷ [] = cc in
      h.is ∙ ap (output_text (output_shapes s)) same ∙ ap (λ (x : Source). output_text (output_shapes x) ((v ∷ []) ∷ [])) (sym (only_tree s is)) ∙ line_of_tree v

-- ---- all of it

abbrev runnable : Circuit → ℕ → Type 0
runnable c seed = IsRunnable (preset_of c.preset) c (drawn_material c seed) (drawn_words c seed) (drawn_rows seed)

decrypted_is_plain : (s : Source) (c : Circuit) (seed : ℕ) → Good s c → runnable c seed → IsPlainText s (drawn_rows seed) (decrypted_text c seed)
unfolding text_of
decrypted_is_plain s c seed good runs = plain_run s c (preset_of c.preset) (drawn_rows seed) (drawn_material c seed) (drawn_words c seed) good runs

pub samples : (agents left : Agents) (s : Source) (c : Circuit) (seed : ℕ) (plain : List ℕ) (p : Product) → IsSource sample_text s → IsPassedOf s agents.passes c left.passes → runnable c seed → IsPlainText s (drawn_rows seed) plain
    → Prints (summary seed (length c.gates) (greatest_bound c) plain (decrypted_text c seed)) p → Leads c agents.picker left.picker → Samples agents seed p left
samples agents left s c seed plain p is of_source runs executed prints leads =
    let one = gives_one_value s (drawn_rows seed) is (drawn_fit s is seed) in
    record {
      source = s;
      is = is;
      circuit = c;
      of_source = of_source;
      value = one.0;
      executed = one.1;
      decrypted = line_is s is (drawn_rows seed) one.0 one.1 (decrypted_text c seed) (decrypted_is_plain s c seed of_source.good runs);
      prints = subst (λ t. Prints (summary seed (length c.gates) (greatest_bound c) t (decrypted_text c seed)) p) (line_is s is (drawn_rows seed) one.0 one.1 plain executed) prints;
      leads = leads;
    }
