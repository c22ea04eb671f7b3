-- Reading statements and whole sources from the front, as functions on tokens.
use Rattle.std.specs.Prelude.{ℕ, zero, suc, List, [], ◌∷◌, ◌++◌, length, Option, Some, None, if◌then◌else◌}
use Rattle.heco_lex.specs.declared.place.Place.{Place}
use Rattle.heco_lex.specs.declared.token.TokenKind.{TokenKind}
use Rattle.heco_lex.specs.declared.token.TokenKind.TheVariants as k
use Rattle.heco_expressions.specs.Reading.{Parser, Outcome, found, syntax, nested, and_then, is_at, expect, word, number, sum, factor, signed, pick}
use Rattle.heco_syntax.specs.Parts.{comma, def_sign, set_op, direction, first_of}
use Rattle.heco_syntax.specs.declared.first.First.{First}
use Rattle.heco_syntax.specs.declared.first.First.TheVariants as first
use Rattle.heco_syntax.specs.declared.lexeme.Lexeme.{Lexeme}
use Rattle.heco_syntax.specs.declared.tree.Def.{Def}
use Rattle.heco_syntax.specs.declared.tree.Expr.{Expr}
use Rattle.heco_syntax.specs.declared.tree.Ident.{Ident}
use Rattle.heco_syntax.specs.declared.tree.Num.{Num}
use Rattle.heco_syntax.specs.declared.tree.Param.{Param}
use Rattle.heco_syntax.specs.declared.tree.Source.{Source}
use Rattle.heco_syntax.specs.declared.tree.Stmt.{Stmt}
use Rattle.heco_syntax.specs.declared.tree.Stmt.TheVariants as s

infixl 10 ◌>>=◌
abbrev pub ◌>>=◌ : {A B : Type 0} → Parser A → (A → Parser B) → Parser B
(p >>= f) ts = and_then (p ts) f

abbrev pub done : {A : Type 0} → A → Parser A
done x ts = found x ts

abbrev pub either : {A : Type 0} → TokenKind → Parser A → Parser A → Parser A
either kind p q ts = if is_at kind ts then p ts else q ts

module _ {S A : Type 0} (sign : Lexeme → Option S) (item : S → Parser A) where
  abbrev pub series_by : (List A → Parser (List A)) → List A → List Lexeme → Option (S × List Lexeme) → Outcome (List A)
  series_by next before ts None = found before ts
  series_by next before ts (Some p) = and_then (item p.0 p.1) (λ x. next (before ++ x ∷ []))

  -- items, each behind its sign, at most so many
  unfoldable pub series : ℕ → List A → Parser (List A)
  series zero before ts = found before ts
  series (suc turns) before ts = series_by (series turns) before ts (signed sign ts)

abbrev pub length_in_brackets : Parser Num
length_in_brackets = do
  open_bracket ← expect k.OpenBracket
  len ← number
  close_bracket ← expect k.CloseBracket
  done len

abbrev pub index_within : ℕ → Parser (Option Expr)
index_within n = do
  open_bracket ← expect k.OpenBracket
  x ← sum (factor n)
  close_bracket ← expect k.CloseBracket
  done (Some x)

-- an index opens a level
abbrev pub index : ℕ → Parser (Option Expr)
index zero ts = nested ts
index (suc n) ts = index_within n ts

abbrev pub more_words : Ident → Parser (List Ident)
more_words x ts = series comma (λ at. word) (length ts) (x ∷ []) ts

abbrev pub some_words : Parser (List Ident)
some_words = do
  x ← word
  more_words x

abbrev pub words : Parser (List Ident)
words = either k.Close (done []) some_words

-- "(" [ Word { "," Word } ] ")"
abbrev pub params : Parser (List Ident)
params = do
  opens ← expect k.Open
  xs ← words
  closes ← expect k.Close
  done xs

module _ (n : ℕ) where
  abbrev pub expression : Parser Expr
  expression = sum (factor n)

  abbrev pub value : Parser Expr
  value = do
    x ← expression
    semi ← expect k.Semi
    done x

  abbrev pub more_values : Expr → Parser (List Expr)
  more_values x ts = series comma (λ at. expression) (length ts) (x ∷ []) ts

  abbrev pub values : Parser (List Expr)
  values = do
    x ← expression
    more_values x

  abbrev pub braced_values : Parser (List Expr)
  braced_values = do
    open_brace ← expect k.OpenBrace
    xs ← values
    close_brace ← expect k.CloseBrace
    done xs

  abbrev pub int_many : Place → Ident → Parser Stmt
  int_many at name = do
    len ← length_in_brackets
    assign ← expect k.Assign
    xs ← braced_values
    semi ← expect k.Semi
    done (s.IntMany at name len xs)

  abbrev pub int_one : Place → Ident → Parser Stmt
  int_one at name = do
    assign ← expect k.Assign
    x ← value
    done (s.IntOne at name x)

  abbrev pub secret_many : Place → Ident → Parser Stmt
  secret_many at name = do
    len ← length_in_brackets
    semi ← expect k.Semi
    done (s.SecretMany at name len)

  abbrev pub given : Parser (Option Expr)
  given = do
    assign ← expect k.Assign
    x ← value
    done (Some x)

  abbrev pub not_given : Parser (Option Expr)
  not_given = do
    semi ← expect k.Semi
    done None

  abbrev pub secret_value : Parser (Option Expr)
  secret_value = either k.Assign given not_given

  abbrev pub secret_one : Place → Ident → Parser Stmt
  secret_one at name = do
    x ← secret_value
    done (s.SecretOne at name x)

  abbrev pub target : Parser (Option Expr)
  target = either k.OpenBracket (index n) (done None)

  abbrev pub assignment : Ident → Parser Stmt
  assignment name = do
    i ← target
    o ← pick set_op
    x ← value
    done (s.Set name i o.0 o.1 x)

  abbrev pub int_statement : Place → Parser Stmt
  int_statement at = do
    name ← word
    either k.OpenBracket (int_many at name) (int_one at name)

  abbrev pub secret_statement : Place → Parser Stmt
  secret_statement at = do
    name ← word
    either k.OpenBracket (secret_many at name) (secret_one at name)

  abbrev pub bounds : Parser (Expr × Expr)
  bounds = do
    low ← expression
    range ← expect k.Range
    high ← expression
    done (low, high)

  abbrev pub definition_from : Place → Parser Def
  definition_from at = do
    name ← word
    xs ← params
    assign ← expect k.Assign
    x ← value
    done (record { at = at; name = name; params = xs; value = x })

  abbrev pub definitions : Parser (List Def)
  definitions ts = series def_sign definition_from (length ts) [] ts

  module _ (block : Parser (List Stmt)) where
    abbrev pub loop : Place → Parser Stmt
    loop at = do
      name ← word
      inside ← expect k.In
      b ← bounds
      body ← block
      done (s.Loop at name b.0 b.1 body)

    abbrev pub otherwise : Parser (Option (List Stmt))
    otherwise = do
      instead ← expect k.Else
      other ← block
      done (Some other)

    abbrev pub maybe_otherwise : Parser (Option (List Stmt))
    maybe_otherwise = either k.Else otherwise (done None)

    abbrev pub choice : Place → Parser Stmt
    choice at = do
      test ← expression
      body ← block
      other ← maybe_otherwise
      done (s.Choice at test body other)

    abbrev pub statement_from : First → Parser Stmt
    statement_from (first.Int at) = int_statement at
    statement_from (first.Secret at) = secret_statement at
    statement_from (first.For at) = loop at
    statement_from (first.If at) = choice at
    statement_from (first.Name name) = assignment name

    abbrev pub body : Parser (List Stmt)
    body ts = series first_of statement_from (length ts) [] ts

    abbrev pub braces : Parser (List Stmt)
    braces = do
      open_brace ← expect k.OpenBrace
      xs ← body
      close_brace ← expect k.CloseBrace
      done xs

  -- a block with d more to open; the brace of one too many is too nested
  unfoldable pub block : ℕ → Parser (List Stmt)
  block zero ts = if is_at k.OpenBrace ts then nested ts else syntax ts
  block (suc d) ts = braces (block d) ts

abbrev pub length_given : Parser (Option Num)
length_given = do
  len ← length_in_brackets
  done (Some len)

abbrev pub maybe_length : Parser (Option Num)
maybe_length = either k.OpenBracket length_given (done None)

abbrev pub param : Parser Param
param = do
  out ← pick direction
  name ← word
  l ← maybe_length
  done (record { output = out; name = name; len = l })

abbrev pub more_params : Param → Parser (List Param)
more_params p ts = series comma (λ at. param) (length ts) (p ∷ []) ts

abbrev pub some_params : Parser (List Param)
some_params = do
  p ← param
  more_params p

abbrev pub ports : Parser (List Param)
ports = either k.Close (done []) some_params

abbrev pub ended : {A : Type 0} → A → Parser A
ended x [] = found x []
ended x (t ∷ ts) = syntax (t ∷ ts)

abbrev pub preset_line : Parser Ident
preset_line = do
  params ← expect k.Params
  preset ← word
  semi ← expect k.Semi
  done preset

abbrev pub signature : Parser (List Param)
signature = do
  opens ← expect k.Open
  ps ← ports
  closes ← expect k.Close
  done ps

module _ (n d : ℕ) where
  abbrev pub source : Parser Source
  source = do
    preset ← preset_line
    defs ← definitions n
    fn ← expect k.Fn
    name ← word
    ps ← signature
    xs ← block n d
    done (record { params = preset; defs = defs; name = name; ports = ps; body = xs })

  -- a source, and nothing behind it
  abbrev pub whole : Parser Source
  whole = do
    x ← source
    ended x
