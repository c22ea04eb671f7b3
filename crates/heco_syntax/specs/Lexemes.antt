-- Lexemes: tokens with what a tree keeps of them.
use Rattle.std.specs.Prelude.{ℕ, List, [], map}
use Rattle.std.specs.Str.Parse.{digits_value}
use Rattle.heco_lex.specs.Places.{place_in}
use Rattle.heco_lex.specs.Splits.{slice_of}
use Rattle.heco_lex.specs.declared.token.Token.{Token}
use Rattle.heco_lex.specs.declared.token.TokenKind.{TokenKind}
use Rattle.heco_lex.specs.declared.token.TokenKind.TheVariants as k
use Rattle.heco_syntax.specs.declared.lexeme.Lexeme.{Lexeme}

-- the text of a word
abbrev pub text_of : TokenKind → List ℕ → List ℕ
text_of k.Word bytes = bytes
text_of kind bytes = []

-- the value of a number
abbrev pub value_of : TokenKind → List ℕ → ℕ
value_of k.Number bytes = digits_value 10 bytes
value_of kind bytes = 0

abbrev pub lexeme_of : List ℕ → Token → Lexeme
lexeme_of text t = record { kind = t.kind; text = text_of t.kind (slice_of text t); value = value_of t.kind (slice_of text t); at = place_in text t.from }

abbrev pub lexemes_of : List ℕ → List Token → List Lexeme
lexemes_of text ts = map (lexeme_of text) ts
