-- What is drawn for the numbers of a preset is drawn for a circuit of it.
use Rattle.std.proofs.Common.{◌≡◌, ◌∙◌, ℕ, List, length, ap}
use Rattle.heco_circuit.specs.Needs.{needed_keys}
use Rattle.heco_circuit.specs.Plans.{Plan as Circuit}
use Rattle.heco_draw.specs.Words.{start}
use Rattle.heco_material.specs.Drawn.{drawn_keys, drawn_encryptions}
use Rattle.heco_material.specs.KeyLists.{KeyLists}
use Rattle.heco_material.specs.declared.words.EncRow.{EncRow}
use Rattle.heco_nums.specs.Presets.{degree_of, hamming_weight_of, error_of}
use Rattle.heco_nums.specs.declared.preset.Preset.{Preset}
use Rattle.heco_sample.specs.Drawn.{drawn_words}
use Rattle.heco_tasks.specs.DrawnFiles.{drawn_material}

module _ (c : Circuit) (q : Preset) (seed : ℕ) (id : q.id ≡ c.preset) where
  degree_is : q.n ≡ degree_of c.preset
  degree_is = q.row.2 ∙ ap degree_of id

  weight_is : q.h ≡ hamming_weight_of c.preset
  weight_is = q.row.5 ∙ ap hamming_weight_of id

  error_is : q.b ≡ error_of c.preset
  error_is = q.row.6 ∙ ap error_of id

  pub keys_are_drawn : (count : ℕ) (k : KeyLists) → count ≡ needed_keys c → k ≡ drawn_keys (start seed 1) q.n q.h q.b count → k ≡ drawn_material c seed
  keys_are_drawn count k many is =
      is ∙ ap (λ n. drawn_keys (start seed 1) n q.h q.b count) degree_is ∙ ap (λ h. drawn_keys (start seed 1) (degree_of c.preset) h q.b count) weight_is
      ∙ ap (λ b. drawn_keys (start seed 1) (degree_of c.preset) (hamming_weight_of c.preset) b count) error_is
      ∙ ap (drawn_keys (start seed 1) (degree_of c.preset) (hamming_weight_of c.preset) (error_of c.preset)) many

  pub words_are_drawn : (count : ℕ) (rows : List EncRow) → count ≡ length c.inputs → rows ≡ drawn_encryptions (start seed 2) q.n q.h q.b count → rows ≡ drawn_words c seed
  words_are_drawn count rows many is =
      is ∙ ap (λ n. drawn_encryptions (start seed 2) n q.h q.b count) degree_is ∙ ap (λ h. drawn_encryptions (start seed 2) (degree_of c.preset) h q.b count) weight_is
      ∙ ap (λ b. drawn_encryptions (start seed 2) (degree_of c.preset) (hamming_weight_of c.preset) b count) error_is
      ∙ ap (drawn_encryptions (start seed 2) (degree_of c.preset) (hamming_weight_of c.preset) (error_of c.preset)) many
