-- The tree of a text, and why a text has none.
use Rattle.std.specs.Prelude.{◌≡◌, ◌<◌, ℕ, List, [], ◌∷◌, ◌++◌, length}
use Rattle.heco_lex.specs.Places.{place_in}
use Rattle.heco_lex.specs.Splits.{Splits}
use Rattle.heco_lex.specs.Steps.{IsBadPlace}
use Rattle.heco_lex.specs.declared.place.Place.{Place}
use Rattle.heco_lex.specs.declared.rule.Rule.TheVariants as rule
use Rattle.heco_lex.specs.declared.token.Token.{Token}
use Rattle.heco_syntax.specs.Lexemes.{lexemes_of}
use Rattle.heco_syntax.specs.Limits.{levels, depth, StopsAt, DivesAt}
use Rattle.heco_syntax.specs.Sources.{IsSource}
use Rattle.heco_syntax.specs.declared.lexeme.Lexeme.{Lexeme}
use Rattle.heco_syntax.specs.declared.tree.Source.{Source}
use Rattle.heco_parse.specs.declared.read.ParseErr.{ParseErr}
use Rattle.heco_parse.specs.declared.read.ParseErr.TheVariants as e

-- the most bytes that a source may have
abbrev pub source_limit : ℕ
source_limit = 1048576

-- the place of the first of these tokens, or the place behind the text
abbrev pub place_or_end : List ℕ → List Lexeme → Place
place_or_end text [] = place_in text (length text)
place_or_end text (t ∷ ts) = t.at

-- the tokens begin a source up to the place, and no further
pub record IsStopped (text : List ℕ) (ts : List Lexeme) (at : Place) : Type 0 where
  pub before : List Lexeme
  pub rest : List Lexeme
  pub all : ts ≡ before ++ rest
  pub stops : StopsAt before rest
  pub place : at ≡ place_or_end text rest

-- the token at the place opens a level or a block too many
pub record IsTooDeep (ts : List Lexeme) (at : Place) : Type 0 where
  pub before : List Lexeme
  pub t : Lexeme
  pub rest : List Lexeme
  pub all : ts ≡ before ++ t ∷ rest
  pub dives : DivesAt before t
  pub place : at ≡ t.at

-- why these tokens have no tree
abbrev pub HasNoTree : List ℕ → List Lexeme → ParseErr → Type 0
HasNoTree text ts (e.At rule.Syntax at) = IsStopped text ts at
HasNoTree text ts (e.At rule.TooNested at) = IsTooDeep ts at
HasNoTree text ts (e.At r at) = ⊥
HasNoTree text ts e.SourceLong = ⊥
HasNoTree text ts e.Memory = Unit {0}

-- the text splits into tokens, and these spell the tree
pub record IsTree (text : List ℕ) (x : Source) : Type 0 where
  pub tokens : List Token
  pub split : Splits 0 text tokens
  pub is : IsSource levels depth (lexemes_of text tokens) x

-- the text splits into tokens, and these have no tree
pub record IsTreeless (text : List ℕ) (refusal : ParseErr) : Type 0 where
  pub tokens : List Token
  pub split : Splits 0 text tokens
  pub why : HasNoTree text (lexemes_of text tokens) refusal

-- why a text of a length that is allowed has no tree
abbrev pub IsRefused : List ℕ → ParseErr → Type 0
IsRefused text (e.At rule.BadByte at) = IsBadPlace text at
IsRefused text (e.At r at) = IsTreeless text (e.At r at)
IsRefused text e.SourceLong = source_limit < length text
IsRefused text e.Memory = Unit {0}
