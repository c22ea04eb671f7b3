-- How a source and a text of inputs are refused.
use Rattle.std.specs.Prelude.{ℕ, List}
use Rattle.heco_nums.specs.declared.shape.Shape.{Shape}
use Rattle.heco_sources.specs.Inputs.{modulus_of, input_shapes}
use Rattle.heco_sources.specs.Sources.{IsSource, IsRefused as IsNoSource}
use Rattle.heco_sources.specs.declared.source.SourceErr.{SourceErr}
use Rattle.heco_sources.specs.declared.source.SourceErr.TheVariants as source
use Rattle.heco_syntax.specs.declared.tree.Source.{Source}
use Rattle.heco_texts.specs.Answers.{IsRefused as IsNoText}
use Rattle.heco_texts.specs.declared.error.InputErr.{InputErr}
use Rattle.heco_texts.specs.declared.error.InputErr.TheVariants as input
use Rattle.heco_jobs.specs.declared.outcome.Outcome.{Outcome}
use Rattle.heco_jobs.specs.declared.outcome.Outcome.TheVariants.{Refused, Memory}
use Rattle.heco_jobs.specs.declared.outcome.Refusal.{Refusal}
use Rattle.heco_jobs.specs.declared.outcome.Refusal.TheVariants.{SourceLong, At, InputLong, InputAt, InputMissing, SecondLong, SecondAt, SecondMissing}

-- some text spells the source
pub record HasText (s : Source) : Type 0 where
  pub text : List ℕ
  pub is : IsSource text s

-- the text is too long, or this is the first rule of reading that it breaks, or else the first rule of typing
abbrev pub IsSourceRefusal : List ℕ → Refusal → Type 0
IsSourceRefusal text SourceLong = IsNoSource text source.SourceLong
IsSourceRefusal text (At rule at) = IsNoSource text (source.At rule at)
IsSourceRefusal text refusal = ⊥

-- the text is too long, or this is the first line that breaks a rule of texts and the first rule that it breaks, or else the
-- first of these inputs that no line gave
abbrev pub IsTextRefusal : ℕ → List Shape → List ℕ → Refusal → Type 0
IsTextRefusal t shapes text InputLong = IsNoText t shapes text input.InputLong
IsTextRefusal t shapes text (InputAt rule line) = IsNoText t shapes text (input.At rule line)
IsTextRefusal t shapes text (InputMissing which) = IsNoText t shapes text (input.InputMissing which)
IsTextRefusal t shapes text refusal = ⊥

-- the same for the inputs of a source
abbrev pub IsValuesRefusal : Source → List ℕ → Refusal → Type 0
IsValuesRefusal s text refusal = IsTextRefusal (modulus_of s) (input_shapes s) text refusal

-- a second text for the same inputs is refused exactly as a first one would be, by names of its own
abbrev pub IsSecondTextRefusal : ℕ → List Shape → List ℕ → Refusal → Type 0
IsSecondTextRefusal t shapes text SecondLong = IsTextRefusal t shapes text InputLong
IsSecondTextRefusal t shapes text (SecondAt rule line) = IsTextRefusal t shapes text (InputAt rule line)
IsSecondTextRefusal t shapes text (SecondMissing which) = IsTextRefusal t shapes text (InputMissing which)
IsSecondTextRefusal t shapes text refusal = ⊥

abbrev pub IsSecondRefusal : Source → List ℕ → Refusal → Type 0
IsSecondRefusal s text refusal = IsSecondTextRefusal (modulus_of s) (input_shapes s) text refusal

-- ---- what an error is answered with

abbrev pub source_answer : SourceErr → Outcome
source_answer source.SourceLong = Refused SourceLong
source_answer (source.At rule at) = Refused (At rule at)
source_answer source.Memory = Memory

abbrev pub text_answer : InputErr → Outcome
text_answer input.InputLong = Refused InputLong
text_answer (input.At rule line) = Refused (InputAt rule line)
text_answer (input.InputMissing which) = Refused (InputMissing which)
text_answer input.Memory = Memory

-- what is answered of the second text, where this would be answered of the first
abbrev pub second_answer : Outcome → Outcome
second_answer (Refused InputLong) = Refused SecondLong
second_answer (Refused (InputAt rule line)) = Refused (SecondAt rule line)
second_answer (Refused (InputMissing which)) = Refused (SecondMissing which)
second_answer outcome = outcome
