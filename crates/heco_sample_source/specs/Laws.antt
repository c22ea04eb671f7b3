-- What is known of the source before it is read.
use Rattle.std.specs.Prelude.{◌≡◌, ℕ, List, [], ◌∷◌, Ok, length, nat_lt, true}
use Rattle.std.specs.List.{list_all}
use Rattle.heco_eval.specs.Typed.{outputs_of}
use Rattle.heco_good.specs.Accepted.{IsAccepted}
use Rattle.heco_good.specs.Good.{modulus}
use Rattle.heco_sources.specs.Inputs.{input_shapes}
use Rattle.heco_sources.specs.Sources.{IsSource}
use Rattle.heco_syntax.specs.declared.tree.Source.{Source}
use Rattle.heco_texts.specs.Answers.{HaveFit}
use Rattle.heco_sample_source.specs.SampleText.{sample_text}

-- the text is a typed source, and each source that it is, is accepted
pub record IsAcceptedText (text : List ℕ) : Type 0 where
  pub source : Source
  pub is : IsSource text source
  pub accepted : (s : Source) → IsSource text s → IsAccepted s

-- 512 numbers modulo 65537
pub record IsSampleRow (row : List ℕ) : Type 0 where
  pub long : length row ≡ 512
  pub below : list_all (λ v. nat_lt v 65537) row ≡ true

-- two such rows fit its inputs
abbrev pub TwoRowsFit : Type 0
TwoRowsFit = (s : Source) (a b : List ℕ) → IsSource sample_text s → IsSampleRow a → IsSampleRow b → HaveFit (modulus s) (input_shapes s) (a ∷ b ∷ [])

-- and on rows that fit it gives one number
abbrev pub GivesOneValue : Type 0
GivesOneValue =
    (s : Source) (rows : List (List ℕ)) → IsSource sample_text s → HaveFit (modulus s) (input_shapes s) rows
    → (v : ℕ) × (outputs_of s rows ≡ Ok ((v ∷ []) ∷ []))
