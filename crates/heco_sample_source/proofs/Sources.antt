-- The text is this source alone, and what follows of what is known of its tree.
use Rattle.std.proofs.Common.{◌≡◌, ◌∙◌, ◌≤◌, ℕ, List, [], ◌∷◌, Ok, length, refl, sym, ap, subst}
use Rattle.std.proofs.lemmas.Bool.{leb-true}
use Rattle.heco_eval.specs.Typed.{outputs_of}
use Rattle.heco_execution.specs.Laws.{mapped, values_of}
use Rattle.heco_good.proofs.ItemsLaw.{executes_by_terms}
use Rattle.heco_good.specs.Accepted.{IsAccepted}
use Rattle.heco_good.specs.Good.{modulus}
use Rattle.heco_parse.specs.Trees.{source_limit}
use Rattle.heco_sources.proofs.SourceLaws.{one_source}
use Rattle.heco_sources.specs.Inputs.{input_shapes}
use Rattle.heco_sources.specs.Sources.{IsSource}
use Rattle.heco_syntax.specs.declared.tree.Source.{Source}
use Rattle.heco_texts.specs.Answers.{HaveFit}
use Rattle.heco_written.specs.ScalarTerm.{scalar_value}
use Rattle.heco_written.specs.World.{World}
use Rattle.heco_sample_source.proofs.Accepted.{accepted}
use Rattle.heco_sample_source.proofs.Execution.{executed}
use Rattle.heco_sample_source.proofs.Lexing.{tokens, splits}
use Rattle.heco_sample_source.proofs.Reading.{spelled}
use Rattle.heco_sample_source.proofs.Tree.{tree}
use Rattle.heco_sample_source.proofs.Typing.{none_broken}
use Rattle.heco_sample_source.proofs.Written.{dot_product}
use Rattle.heco_sample_source.specs.Laws.{IsAcceptedText, IsSampleRow, TwoRowsFit, GivesOneValue}
use Rattle.heco_sample_source.specs.SampleText.{sample_text}

short : length sample_text ≤ source_limit
unfolding sample_text
short = leb-true (length sample_text) source_limit refl

pub is_tree : IsSource sample_text tree
is_tree = record { short = short; tree = record { tokens = tokens; split = splits; is = spelled }; none = none_broken }

pub only_tree : (s : Source) → IsSource sample_text s → tree ≡ s
only_tree s is = one_source sample_text tree s is_tree is

pub text_accepted : IsAcceptedText sample_text
text_accepted = record { source = tree; is = is_tree; accepted = λ s is. subst IsAccepted (only_tree s is) accepted }

tree_fits : (a b : List ℕ) → IsSampleRow a → IsSampleRow b → HaveFit (modulus tree) (input_shapes tree) (a ∷ b ∷ [])
tree_fits a b in_a in_b = (in_a.long, in_a.below, (in_b.long, in_b.below, tt))

pub two_rows_fit : TwoRowsFit
two_rows_fit s a b is in_a in_b = subst (λ (x : Source). HaveFit (modulus x) (input_shapes x) (a ∷ b ∷ [])) (only_tree s is) (tree_fits a b in_a in_b)

abbrev world : List (List ℕ) → World
world rows = record { modulus = 65537; slots = 512; inputs = rows }

tree_value : (rows : List (List ℕ)) → HaveFit (modulus tree) (input_shapes tree) rows → outputs_of tree rows ≡ Ok ((scalar_value (world rows) dot_product ∷ []) ∷ [])
tree_value rows fit = executes_by_terms tree rows fit ∙ ap (mapped (values_of (world rows))) executed

abbrev HasValue : List (List ℕ) → Source → Type 0
HasValue rows s = (v : ℕ) × (outputs_of s rows ≡ Ok ((v ∷ []) ∷ []))

pub gives_one_value : GivesOneValue
gives_one_value s rows is fit =
    let fit_tree : HaveFit (modulus tree) (input_shapes tree) rows = subst (λ (x : Source). HaveFit (modulus x) (input_shapes x) rows) (sym (only_tree s is)) fit in
    subst (HasValue rows) (only_tree s is) (scalar_value (world rows) dot_product, tree_value rows fit_tree)
