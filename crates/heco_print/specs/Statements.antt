-- The tokens of statements and of a whole source.
use Rattle.std.specs.Prelude.{List, [], ◌∷◌, ◌++◌, Option, Some, None, if◌then◌else◌}
use Rattle.std.specs.List.{flat_map}
use Rattle.heco_lex.specs.declared.place.Place.{Place}
use Rattle.heco_lex.specs.declared.token.TokenKind.{TokenKind}
use Rattle.heco_lex.specs.declared.token.TokenKind.TheVariants as k
use Rattle.heco_print.specs.Spelling.{mark, mark_at, word_of, digits_of, separated, parens, expression}
use Rattle.heco_syntax.specs.declared.lexeme.Lexeme.{Lexeme}
use Rattle.heco_syntax.specs.declared.tree.Def.{Def}
use Rattle.heco_syntax.specs.declared.tree.Expr.{Expr}
use Rattle.heco_syntax.specs.declared.tree.Ident.{Ident}
use Rattle.heco_syntax.specs.declared.tree.Num.{Num}
use Rattle.heco_syntax.specs.declared.tree.Param.{Param}
use Rattle.heco_syntax.specs.declared.tree.SetOp.{SetOp}
use Rattle.heco_syntax.specs.declared.tree.SetOp.TheVariants as op
use Rattle.heco_syntax.specs.declared.tree.Source.{Source}
use Rattle.heco_syntax.specs.declared.tree.Stmt.{Stmt, fold-Stmt}
use Rattle.heco_syntax.specs.declared.tree.Stmt.TheOpen.{Stmt-F}

-- "[" Number "]"
abbrev pub brackets : Num → List Lexeme
brackets n = mark k.OpenBracket ∷ digits_of n ∷ mark k.CloseBracket ∷ []

abbrev pub set_kind : SetOp → TokenKind
set_kind op.Put = k.Assign
set_kind op.Add = k.AddAssign
set_kind op.Sub = k.SubAssign
set_kind op.Mul = k.MulAssign

-- [ "[" expr "]" ]
abbrev pub target : Option Expr → List Lexeme
target None = []
target (Some i) = mark k.OpenBracket ∷ (expression i ++ mark k.CloseBracket ∷ [])

-- [ "=" expr ]
abbrev pub given : Option Expr → List Lexeme
given None = []
given (Some x) = mark k.Assign ∷ expression x

abbrev pub braces : List Lexeme → List Lexeme
braces ts = mark k.OpenBrace ∷ (ts ++ mark k.CloseBrace ∷ [])

abbrev pub int_one : Place → Ident → Expr → List Lexeme
int_one at name value = mark_at k.Int at ∷ word_of name ∷ mark k.Assign ∷ (expression value ++ mark k.Semi ∷ [])

abbrev pub int_many : Place → Ident → Num → List Expr → List Lexeme
int_many at name len values = mark_at k.Int at ∷ word_of name ∷ (brackets len ++ (mark k.Assign ∷ (braces (separated expression values) ++ mark k.Semi ∷ [])))

abbrev pub secret_one : Place → Ident → Option Expr → List Lexeme
secret_one at name value = mark_at k.Secret at ∷ word_of name ∷ (given value ++ mark k.Semi ∷ [])

abbrev pub secret_many : Place → Ident → Num → List Lexeme
secret_many at name len = mark_at k.Secret at ∷ word_of name ∷ (brackets len ++ mark k.Semi ∷ [])

abbrev pub assignment : Ident → Option Expr → SetOp → Place → Expr → List Lexeme
assignment name index o at value = word_of name ∷ (target index ++ (mark_at (set_kind o) at ∷ (expression value ++ mark k.Semi ∷ [])))

abbrev pub loop_head : Place → Ident → Expr → Expr → List Lexeme
loop_head at name low high = mark_at k.For at ∷ word_of name ∷ mark k.In ∷ (expression low ++ (mark k.Range ∷ expression high))

abbrev pub loop : Place → Ident → Expr → Expr → List Lexeme → List Lexeme
loop at name low high body = loop_head at name low high ++ braces body

abbrev pub choice_head : Place → Expr → List Lexeme
choice_head at test = mark_at k.If at ∷ expression test

-- "else" block
abbrev pub otherwise : List Lexeme → List Lexeme
otherwise other = mark k.Else ∷ braces other

-- "if" expr block [ "else" block ]
abbrev pub choice : Place → Expr → List Lexeme → List Lexeme → List Lexeme
choice at test body other = choice_head at test ++ (braces body ++ other)

abbrev pub stmt_step : Stmt-F (List Lexeme) → List Lexeme
stmt_step (Stmt-F.IntOne at name value) = int_one at name value
stmt_step (Stmt-F.IntMany at name len values) = int_many at name len values
stmt_step (Stmt-F.SecretOne at name value) = secret_one at name value
stmt_step (Stmt-F.SecretMany at name len) = secret_many at name len
stmt_step (Stmt-F.Set name index o at value) = assignment name index o at value
stmt_step (Stmt-F.Loop at name low high body) = loop at name low high (flat_map (λ ts. ts) body)
stmt_step (Stmt-F.Choice at test body None) = choice at test (flat_map (λ ts. ts) body) []
stmt_step (Stmt-F.Choice at test body (Some other)) = choice at test (flat_map (λ ts. ts) body) (otherwise (flat_map (λ ts. ts) other))

abbrev pub spelled_stmt : Stmt → List Lexeme
spelled_stmt x = fold-Stmt (List Lexeme) stmt_step x

abbrev pub block : List Stmt → List Lexeme
block xs = braces (flat_map spelled_stmt xs)

abbrev pub length_given : Option Num → List Lexeme
length_given None = []
length_given (Some n) = brackets n

-- ( "in" | "out" ) Word [ "[" Number "]" ]
abbrev pub param : Param → List Lexeme
param p = mark (if p.output then k.Out else k.In) ∷ word_of p.name ∷ length_given p.len

-- "params" Word ";"
abbrev pub preset_line : Ident → List Lexeme
preset_line params = mark k.Params ∷ word_of params ∷ mark k.Semi ∷ []

abbrev pub words : List Ident → List Lexeme
words xs = separated (λ x. word_of x ∷ []) xs

-- "def" Word "(" [ Word { "," Word } ] ")" "=" expr ";"
abbrev pub definition : Def → List Lexeme
definition d = mark_at k.Def d.at ∷ word_of d.name ∷ (parens (words d.params) ++ (mark k.Assign ∷ (expression d.value ++ mark k.Semi ∷ [])))

-- "fn" Word "("
abbrev pub name_line : Ident → List Lexeme
name_line name = mark k.Fn ∷ word_of name ∷ mark k.Open ∷ []

abbrev pub spelled_source : Source → List Lexeme
spelled_source x = preset_line x.params ++ (flat_map definition x.defs ++ (name_line x.name ++ (separated param x.ports ++ (mark k.Close ∷ block x.body))))
