-- The text of tokens: one space between, and one line end behind.
use Rattle.std.specs.Prelude.{ℕ, List, [], ◌∷◌, ◌++◌, codes, decimal}
use Rattle.std.specs.List.{flat_map}
use Rattle.heco_lex.specs.declared.token.TokenKind.{TokenKind}
use Rattle.heco_lex.specs.declared.token.TokenKind.TheVariants as k
use Rattle.heco_print.specs.Statements.{spelled_source}
use Rattle.heco_syntax.specs.declared.lexeme.Lexeme.{Lexeme}
use Rattle.heco_syntax.specs.declared.tree.Source.{Source}

-- the text of a reserved word or a sign
abbrev pub fixed_text : TokenKind → List ℕ
fixed_text k.Params = codes "params"
fixed_text k.Fn = codes "fn"
fixed_text k.In = codes "in"
fixed_text k.Out = codes "out"
fixed_text k.Int = codes "int"
fixed_text k.Secret = codes "secret"
fixed_text k.For = codes "for"
fixed_text k.Def = codes "def"
fixed_text k.If = codes "if"
fixed_text k.Else = codes "else"
fixed_text k.Open = codes "("
fixed_text k.Close = codes ")"
fixed_text k.OpenBrace = codes "{"
fixed_text k.CloseBrace = codes "}"
fixed_text k.OpenBracket = codes "["
fixed_text k.CloseBracket = codes "]"
fixed_text k.Comma = codes ","
fixed_text k.Semi = codes ";"
fixed_text k.Range = codes ".."
fixed_text k.Assign = codes "="
fixed_text k.AddAssign = codes "+="
fixed_text k.SubAssign = codes "-="
fixed_text k.MulAssign = codes "*="
fixed_text k.Plus = codes "+"
fixed_text k.Minus = codes "-"
fixed_text k.Star = codes "*"
fixed_text k.Word = []
fixed_text k.Number = []

-- a name, a number without leading zeros, or the text of the kind
abbrev pub text_by : TokenKind → Lexeme → List ℕ
text_by k.Word t = t.text
text_by k.Number t = decimal t.value
text_by kind t = fixed_text kind

abbrev pub text_of : Lexeme → List ℕ
text_of t = text_by t.kind t

abbrev pub spaced_text : List Lexeme → List ℕ
spaced_text ts = flat_map (λ t. 32 ∷ text_of t) ts

abbrev pub line_of : List Lexeme → List ℕ
line_of [] = 10 ∷ []
line_of (t ∷ ts) = text_of t ++ (spaced_text ts ++ 10 ∷ [])

-- the text of a source
abbrev pub printed : Source → List ℕ
printed x = line_of (spelled_source x)
