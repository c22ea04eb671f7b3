-- Texts of tokens with a space between.
use Rattle.std.specs.Prelude.{◌≡◌, ℕ, ◌+◌, List, [], ◌∷◌, ◌++◌, Some, length}
use Rattle.heco_lex.specs.Kinds.{kind_of}
use Rattle.heco_lex.specs.Splits.{token_at}
use Rattle.heco_lex.specs.declared.token.Token.{Token}
use Rattle.heco_lex.specs.declared.token.TokenKind.{TokenKind}

-- texts of tokens, each behind a space, and a line end
pub record Spelling : Type 0 where
  pub kind : TokenKind
  pub text : List ℕ
  pub fits : kind_of text ≡ Some kind

abbrev pub spaced : List Spelling → List ℕ
spaced [] = 10 ∷ []
spaced (p ∷ ps) = 32 ∷ (p.text ++ spaced ps)

-- the tokens of these, from an offset on
abbrev pub spaced_tokens : ℕ → List Spelling → List Token
spaced_tokens at [] = []
spaced_tokens at (p ∷ ps) = token_at (at + 1) (length p.text) p.kind ∷ spaced_tokens (at + 1 + length p.text) ps
