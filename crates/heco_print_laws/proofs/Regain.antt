-- What a source is printed as spells it again up to places.
use Rattle.std.proofs.Common.{subst, refl, ℕ, List, arith}
use Rattle.heco_lex.proofs.Spans.{spans}
use Rattle.heco_lex.specs.Splits.{Splits}
use Rattle.heco_lex.specs.declared.token.Token.{Token}
use Rattle.heco_print.specs.Lines.{printed}
use Rattle.heco_print.specs.Statements.{spelled_source}
use Rattle.heco_print_laws.proofs.Fitting.{Each, IsPlain, lexemes_fit}
use Rattle.heco_print_laws.proofs.LiftedSources.{source_lifts}
use Rattle.heco_print_laws.proofs.PrintedSources.{source_prints}
use Rattle.heco_print_laws.proofs.Texts.{params_line}
use Rattle.heco_print_laws.specs.Regained.{SpellsAlike}
use Rattle.heco_syntax.specs.Lexemes.{lexemes_of}
use Rattle.heco_syntax.specs.Sources.{IsSource}
use Rattle.heco_syntax.specs.declared.tree.Source.{Source}

pub regained : (text : List ℕ) (ts : List Token) (n d : ℕ) (x : Source) → Splits 0 text ts → IsSource n d (lexemes_of text ts) x → SpellsAlike n d (printed x) x
regained text ts n d x s i =
    let a = (source_prints n d).prints (lexemes_of text ts) x (lexemes_fit text 0 ts (spans text s (omega arith) refl)) i in
    let plain : Each IsPlain (spelled_source x) = subst (Each IsPlain) a.all a.plain in
    let is : IsSource n d (spelled_source x) x = subst (λ v. IsSource n d v x) a.all a.is in
    let l = params_line _ _ plain in
    let r = (source_lifts n d).lifts (spelled_source x) (lexemes_of (printed x) l.tokens) x is l.like in
    record { tokens = l.tokens; tree = r.y; split = l.split; is = r.is; same = r.same }
