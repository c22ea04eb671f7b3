-- From what reading tells to the words of the contract.
use Rattle.std.proofs.Common.{◌≡◌, ◌∙◌, sym, ap, subst, ℕ, List, ◌≤◌, ◌^◌, length}
use Rattle.std.specs.Prelude.{Result, Ok, Err, IfOk}
use Rattle.heco_lex.specs.Splits.{AreSpans, Splits}
use Rattle.heco_lex.specs.declared.place.Place.{Place}
use Rattle.heco_lex.specs.declared.token.Token.{Token}
use Rattle.heco_syntax.specs.Lexemes.{lexemes_of}
use Rattle.heco_syntax.specs.Sources.{IsSource}
use Rattle.heco_syntax.specs.Wellformed.{IsWellformed}
use Rattle.heco_syntax.specs.declared.lexeme.Lexeme.{Lexeme}
use Rattle.heco_syntax.specs.declared.tree.Source.{Source}
use Rattle.heco_order.proofs.Ordered.{in_order}
use Rattle.heco_expressions.specs.Reading.{syntax, nested}
use Rattle.heco_statements.specs.Reading.{whole}
use Rattle.heco_statements.proofs.WholeSources.{whole_stops, whole_dives}
use Rattle.heco_parse.specs.Trees.{IsStopped, IsTooDeep, place_or_end}

pub stopped : (text : List ℕ) (ts rest : List Lexeme) (at : Place) → whole 64 8 ts ≡ syntax rest → at ≡ place_or_end text rest → IsStopped text ts at
stopped text ts rest at h e =
    let s = whole_stops 64 8 ts rest h in
    record { before = s.before; rest = rest; all = s.all; stops = record { viable = s.viable; shallow = s.shallow; dead = s.dead }; place = e }

pub dived : (text : List ℕ) (ts rest : List Lexeme) (at : Place) → whole 64 8 ts ≡ nested rest → at ≡ place_or_end text rest → IsTooDeep ts at
dived text ts rest at h e =
    let s = whole_dives 64 8 ts rest h in
    record { before = s.before; t = s.t; rest = s.others; all = s.all; dives = record { viable = s.viable; shallow = s.shallow; deep = s.deep }; place = e ∙ ap (place_or_end text) s.is }

-- the tree of the lexemes is the only one of the text
pub only_tree : {E : Type 0} (text : List ℕ) (tokens : List Token) (ls : List Lexeme) (r : Result Source E) → ((us : List Token) → Splits 0 text us → us ≡ tokens) → ls ≡ lexemes_of text tokens
    → IfOk r (λ x. (n d : ℕ) (y : Source) → IsSource n d ls y → y ≡ x) → IfOk r (λ x. (n d : ℕ) (ts : List Token) (y : Source) → Splits 0 text ts → IsSource n d (lexemes_of text ts) y → y ≡ x)
only_tree text tokens ls (Ok x) one e h = λ n d ts y s i. h n d y (subst (λ v. IsSource n d v y) (ap (lexemes_of text) (one ts s) ∙ sym e) i)
only_tree text tokens ls (Err v) one e h = tt

-- the tree of the lexemes of a text is wellformed
pub wellformed_tree : {E : Type 0} (text : List ℕ) (tokens : List Token) (ls : List Lexeme) (r : Result Source E) → length text ≤ 2 ^ 20 → AreSpans text 0 tokens → ls ≡ lexemes_of text tokens
    → IfOk r (IsSource 64 8 ls) → IfOk r IsWellformed
wellformed_tree text tokens ls (Ok x) short spans e i = record { within = record { tokens = ls; is = i }; order = in_order text 0 tokens 64 8 x short spans (subst (λ v. IsSource 64 8 v x) e i) }
wellformed_tree text tokens ls (Err v) short spans e i = tt
