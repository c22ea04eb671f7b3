-- Texts that spell a tree up to places.
use Rattle.std.specs.Prelude.{◌≡◌, ℕ, List}
use Rattle.heco_lex.specs.Splits.{Splits}
use Rattle.heco_lex.specs.declared.token.Token.{Token}
use Rattle.heco_syntax.specs.Erasure.{bare_source}
use Rattle.heco_syntax.specs.Lexemes.{lexemes_of}
use Rattle.heco_syntax.specs.Sources.{IsSource}
use Rattle.heco_syntax.specs.declared.tree.Source.{Source}

-- the text splits into tokens, and these spell the tree up to places, with at most n levels and d blocks open
pub record SpellsAlike (n d : ℕ) (text : List ℕ) (x : Source) : Type 0 where
  pub tokens : List Token
  pub tree : Source
  pub split : Splits 0 text tokens
  pub is : IsSource n d (lexemes_of text tokens) tree
  pub same : bare_source tree ≡ bare_source x
