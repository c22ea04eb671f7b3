-- What a source is printed as is read again, where it is not too long.
use Rattle.std.proofs.Common.{◌≡◌, ◌∙◌, sym, ap, subst, refl, ℕ, ◌≤◌, List, [], ◌∷◌, ◌++◌, arith, append_assoc, append-nil, length}
use Rattle.std.specs.Prelude.{Result, Ok, Err, IfOk, IfErr}
use Rattle.heco_lex.proofs.Unique.{one_split}
use Rattle.heco_lex.specs.Splits.{Splits}
use Rattle.heco_lex.specs.declared.rule.Rule.TheVariants as rule
use Rattle.heco_lex.specs.declared.token.Token.{Token}
use Rattle.heco_print.specs.Lines.{printed}
use Rattle.heco_print_laws.proofs.Regain.{regained}
use Rattle.heco_print_laws.specs.Regained.{SpellsAlike}
use Rattle.heco_statements.proofs.SourceReaders.{whole_reader}
use Rattle.heco_syntax.specs.Erasure.{bare_source}
use Rattle.heco_syntax.specs.Lexemes.{lexemes_of}
use Rattle.heco_syntax.specs.Limits.{AreDead}
use Rattle.heco_syntax.specs.Sources.{IsSource}
use Rattle.heco_syntax.specs.declared.lexeme.Lexeme.{Lexeme}
use Rattle.heco_syntax.specs.declared.tree.Source.{Source}
use Rattle.heco_parse.specs.Regained.{Regains}
use Rattle.heco_parse.specs.Trees.{source_limit, HasNoTree, IsTree, IsStopped, IsTooDeep, IsRefused}
use Rattle.heco_parse.specs.declared.read.ParseErr.{ParseErr}
use Rattle.heco_parse.specs.declared.read.ParseErr.TheVariants as e

-- tokens that spell a source are not dead
alive : (before rest : List Lexeme) (x : Source) → IsSource 64 8 (before ++ rest) x → AreDead before rest → ⊥
alive before [] x i dead = dead 64 8 x (subst (λ v. IsSource 64 8 v x) (append-nil before) i)
alive before (t ∷ us) x i dead = dead (record { n = 64; d = 8; begins = record { others = us; x = x; is = subst (λ v. IsSource 64 8 v x) (sym (append_assoc before (t ∷ []) us)) i } })

not_stopped : (text : List ℕ) (ts : List Lexeme) (at : _) (x : Source) → IsSource 64 8 ts x → IsStopped text ts at → ⊥
not_stopped text ts at x i s = alive s.before s.rest x (subst (λ v. IsSource 64 8 v x) s.all i) s.stops.dead

-- and open nothing too deep
not_deep : (ts : List Lexeme) (at : _) (x : Source) → IsSource 64 8 ts x → IsTooDeep ts at → ⊥
not_deep ts at x i s =
    let j = subst (λ v. IsSource 64 8 v x) (s.all ∙ sym (append_assoc s.before (s.t ∷ []) s.rest)) i in
    s.dives.deep (record { others = s.rest; x = x; is = (whole_reader 64 8 64 8).weak_cut ((s.before ++ s.t ∷ []) ++ s.rest) x j })

module _ (text : List ℕ) (tokens : List Token) (x : Source) (split : Splits 0 text tokens) (is : IsSource 64 8 (lexemes_of text tokens) x) where
  same_tokens : (ts : List Token) → Splits 0 text ts → IsSource 64 8 (lexemes_of text ts) x
  same_tokens ts s = subst (λ v. IsSource 64 8 (lexemes_of text v) x) (one_split split s) is

  -- a text that has a tree is refused for want of memory alone
  pub not_refused : length text ≤ source_limit → (refusal : ParseErr) → IsRefused text refusal → refusal ≡ e.Memory
  not_refused short e.Memory h = refl
  not_refused short e.SourceLong h = absurd (omega arith)
  not_refused short (e.At rule.BadByte at) h = absurd (h.no_split tokens split)
  not_refused short (e.At rule.Syntax at) h = absurd (not_stopped text (lexemes_of text h.tokens) at x (same_tokens h.tokens h.split) h.why)
  not_refused short (e.At rule.TooNested at) h = absurd (not_deep (lexemes_of text h.tokens) at x (same_tokens h.tokens h.split) h.why)
  not_refused short (e.At r at) h = absurd h.why

-- the tree of a printed source, up to places
pub regains : (text source : List ℕ) (x : Source) (r : Result Source ParseErr) → IfOk r (λ y. (n d : ℕ) (ts : List Token) (z : Source) → Splits 0 text ts → IsSource n d (lexemes_of text ts) z → z ≡ y)
    → IfErr r (IsRefused text) → IsTree source x → text ≡ printed x → length text ≤ source_limit → Regains x r
regains text source x (Ok y) only refused t same short =
    let a = subst (λ v. SpellsAlike 64 8 v x) (sym same) (regained source t.tokens 64 8 x t.split t.is) in
    ap bare_source (sym (only 64 8 a.tokens a.tree a.split a.is)) ∙ a.same
regains text source x (Err refusal) only refused t same short =
    let a = subst (λ v. SpellsAlike 64 8 v x) (sym same) (regained source t.tokens 64 8 x t.split t.is) in
    not_refused text a.tokens a.tree a.split a.is short refusal refused

pub tree_refused : (text : List ℕ) (tokens : List Token) (ls : List Lexeme) (r : Result Source ParseErr) → Splits 0 text tokens → ls ≡ lexemes_of text tokens → IfErr r (HasNoTree text ls) → IfErr r (IsRefused text)
tree_refused text tokens ls (Ok x) s same h = tt
tree_refused text tokens ls (Err e.Memory) s same h = tt
tree_refused text tokens ls (Err e.SourceLong) s same h = absurd h
tree_refused text tokens ls (Err (e.At rule.BadByte at)) s same h = absurd h
tree_refused text tokens ls (Err (e.At r at)) s same h = record { tokens = tokens; split = s; why = subst (λ v. HasNoTree text v (e.At r at)) same h }
