-- Nothing refuses the source: what is refused of it is for want of memory.
use Rattle.std.proofs.Common.{◌≡◌, ◌∙◌, ℕ, List, [], ◌∷◌, Ok, Err, refl, sym}
use Rattle.heco_compile.proofs.Refused.{refused_not_accepted}
use Rattle.heco_compile.specs.Compiling.{IsRefused}
use Rattle.heco_compile.specs.declared.error.CompileErr.{CompileErr}
use Rattle.heco_compile.specs.declared.error.CompileErr.TheVariants as compiling
use Rattle.heco_eval.specs.Typed.{outputs_of}
use Rattle.heco_execution.specs.Outcomes.{Refuses}
use Rattle.heco_execution.specs.declared.error.EvalErr.{EvalErr}
use Rattle.heco_execution.specs.declared.error.EvalErr.TheVariants as execution
use Rattle.heco_good.specs.Good.{modulus}
use Rattle.heco_sample_source.proofs.Sources.{text_accepted, gives_one_value}
use Rattle.heco_sample_source.specs.SampleText.{sample_text}
use Rattle.heco_sources.proofs.SourceLaws.{refused_none}
use Rattle.heco_sources.specs.Inputs.{input_shapes}
use Rattle.heco_sources.specs.Sources.{IsSource}
use Rattle.heco_sources.specs.Sources as reading
use Rattle.heco_sources.specs.declared.source.SourceErr.{SourceErr}
use Rattle.heco_sources.specs.declared.source.SourceErr.TheVariants as source
use Rattle.heco_syntax.specs.declared.tree.Source.{Source}
use Rattle.heco_texts.specs.Answers.{HaveFit}

pub not_misread : (error : SourceErr) → reading.IsRefused sample_text error → error ≡ source.Memory
not_misread error h = refused_none sample_text text_accepted.source error text_accepted.is h

pub not_refused : (s : Source) → IsSource sample_text s → (error : CompileErr) → IsRefused s error → error ≡ compiling.Memory
not_refused s is compiling.Memory h = refl
not_refused s is compiling.SourceLong h = absurd h
not_refused s is (compiling.At rule at) h = absurd (refused_not_accepted s (compiling.At rule at) (λ e. cc) h (text_accepted.accepted s is))
not_refused s is (compiling.TooDeep out index bound) h = absurd (refused_not_accepted s (compiling.TooDeep out index bound) (λ e. cc) h (text_accepted.accepted s is))

pub not_broken : (s : Source) (rows : List (List ℕ)) → IsSource sample_text s → HaveFit (modulus s) (input_shapes s) rows → (error : EvalErr) → Refuses error (outputs_of s rows) → error ≡ execution.Memory
not_broken s rows is fit execution.Memory h = refl
not_broken s rows is fit (execution.At rule at) h = let one = gives_one_value s rows is fit in let two : Ok ((one.0 ∷ []) ∷ []) ≡ Err _ = sym one.1 ∙ h in absurd (let no : ⊥ = cc in no)
