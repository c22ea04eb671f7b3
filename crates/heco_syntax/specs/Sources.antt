-- The productions of statements and of whole sources, with at most n expression levels and d blocks open.
use Rattle.std.specs.Prelude.{ℕ, zero, suc, List, [], ◌∷◌, Option, Some, None}
use Rattle.heco_lex.specs.declared.place.Place.{Place}
use Rattle.heco_lex.specs.declared.token.TokenKind.{TokenKind}
use Rattle.heco_lex.specs.declared.token.TokenKind.TheVariants as k
use Rattle.heco_syntax.specs.Grammar.{IsSum}
use Rattle.heco_syntax.specs.Parts.{place_of, ident_of, num_of, comma, def_sign, set_op, direction, first_of}
use Rattle.heco_syntax.specs.Productions.{Spells, IsOne, IsKnown, IsNothing, Many, ◌>>=◌, ◌or◌}
use Rattle.heco_syntax.specs.declared.first.First.{First}
use Rattle.heco_syntax.specs.declared.first.First.TheVariants as first
use Rattle.heco_syntax.specs.declared.lexeme.Lexeme.{Lexeme}
use Rattle.heco_syntax.specs.declared.tree.Def.{Def}
use Rattle.heco_syntax.specs.declared.tree.Expr.{Expr}
use Rattle.heco_syntax.specs.declared.tree.Ident.{Ident}
use Rattle.heco_syntax.specs.declared.tree.Num.{Num}
use Rattle.heco_syntax.specs.declared.tree.Param.{Param}
use Rattle.heco_syntax.specs.declared.tree.Source.{Source}
use Rattle.heco_syntax.specs.declared.tree.Stmt.{Stmt}
use Rattle.heco_syntax.specs.declared.tree.Stmt.TheVariants as s

abbrev pub token : TokenKind → Spells Place
token kind = IsOne place_of kind

abbrev pub word : Spells Ident
word = IsOne ident_of k.Word

abbrev pub number : Spells Num
number = IsOne num_of k.Number

abbrev pub known : {A : Type 0} → (Lexeme → Option A) → Spells A
known f = IsKnown f

abbrev pub yields : {A : Type 0} → A → Spells A
yields x = IsNothing x

-- "," and more
abbrev pub after_comma : {A : Type 0} → Spells A → Spells A
after_comma item = do
  at ← known comma
  item

-- "[" Number "]"
abbrev pub length_in_brackets : Spells Num
length_in_brackets = do
  open_bracket ← token k.OpenBracket
  len ← number
  close_bracket ← token k.CloseBracket
  yields len

abbrev pub index_within : ℕ → Spells (Option Expr)
index_within n = do
  open_bracket ← token k.OpenBracket
  x ← IsSum n
  close_bracket ← token k.CloseBracket
  yields (Some x)

-- "[" expr "]", which opens a level
abbrev pub index : ℕ → Spells (Option Expr)
index zero ts x = ⊥
index (suc n) ts x = index_within n ts x

abbrev pub some_words : Spells (List Ident)
some_words = do
  x ← word
  xs ← Many (after_comma word)
  yields (x ∷ xs)

abbrev pub no_words : Spells (List Ident)
no_words = yields []

-- "(" [ Word { "," Word } ] ")"
abbrev pub params : Spells (List Ident)
params = do
  opens ← token k.Open
  xs ← no_words or some_words
  closes ← token k.Close
  yields xs

module _ (n : ℕ) where
  abbrev pub expression : Spells Expr
  expression = IsSum n

  -- expr ";"
  abbrev pub value : Spells Expr
  value = do
    x ← expression
    semi ← token k.Semi
    yields x

  -- expr { "," expr }
  abbrev pub values : Spells (List Expr)
  values = do
    x ← expression
    xs ← Many (after_comma expression)
    yields (x ∷ xs)

  -- "{" expr { "," expr } "}"
  abbrev pub braced_values : Spells (List Expr)
  braced_values = do
    open_brace ← token k.OpenBrace
    xs ← values
    close_brace ← token k.CloseBrace
    yields xs

  -- "[" Number "]" "=" "{" expr { "," expr } "}" ";"
  abbrev pub int_many : Place → Ident → Spells Stmt
  int_many at name = do
    len ← length_in_brackets
    assign ← token k.Assign
    xs ← braced_values
    semi ← token k.Semi
    yields (s.IntMany at name len xs)

  -- "=" expr ";"
  abbrev pub int_one : Place → Ident → Spells Stmt
  int_one at name = do
    assign ← token k.Assign
    x ← value
    yields (s.IntOne at name x)

  -- "[" Number "]" ";"
  abbrev pub secret_many : Place → Ident → Spells Stmt
  secret_many at name = do
    len ← length_in_brackets
    semi ← token k.Semi
    yields (s.SecretMany at name len)

  abbrev pub given : Spells (Option Expr)
  given = do
    assign ← token k.Assign
    x ← value
    yields (Some x)

  abbrev pub not_given : Spells (Option Expr)
  not_given = do
    semi ← token k.Semi
    yields None

  -- [ "=" expr ] ";"
  abbrev pub secret_one : Place → Ident → Spells Stmt
  secret_one at name = do
    x ← given or not_given
    yields (s.SecretOne at name x)

  abbrev pub no_index : Spells (Option Expr)
  no_index = yields None

  -- [ "[" expr "]" ] ( "=" | "+=" | "-=" | "*=" ) expr ";"
  abbrev pub assignment : Ident → Spells Stmt
  assignment name = do
    i ← index n or no_index
    o ← known set_op
    x ← value
    yields (s.Set name i o.0 o.1 x)

  abbrev pub int_statement : Place → Spells Stmt
  int_statement at = do
    name ← word
    int_many at name or int_one at name

  abbrev pub secret_statement : Place → Spells Stmt
  secret_statement at = do
    name ← word
    secret_many at name or secret_one at name

  -- expr ".." expr
  abbrev pub bounds : Spells (Expr × Expr)
  bounds = do
    low ← expression
    range ← token k.Range
    high ← expression
    yields (low, high)

  -- Word "(" [ Word { "," Word } ] ")" "=" expr ";"
  abbrev pub definition_from : Place → Spells Def
  definition_from at = do
    name ← word
    xs ← params
    assign ← token k.Assign
    x ← value
    yields (record { at = at; name = name; params = xs; value = x })

  -- "def" Word "(" [ Word { "," Word } ] ")" "=" expr ";"
  abbrev pub definition : Spells Def
  definition = do
    at ← known def_sign
    definition_from at

  module _ (block : Spells (List Stmt)) where
    -- Word "in" expr ".." expr block
    abbrev pub loop : Place → Spells Stmt
    loop at = do
      name ← word
      inside ← token k.In
      b ← bounds
      body ← block
      yields (s.Loop at name b.0 b.1 body)

    -- "else" block
    abbrev pub otherwise : Spells (Option (List Stmt))
    otherwise = do
      instead ← token k.Else
      other ← block
      yields (Some other)

    abbrev pub no_otherwise : Spells (Option (List Stmt))
    no_otherwise = yields None

    -- expr block [ "else" block ]
    abbrev pub choice : Place → Spells Stmt
    choice at = do
      test ← expression
      body ← block
      other ← otherwise or no_otherwise
      yields (s.Choice at test body other)

    -- what follows the first token of a statement
    abbrev pub statement_from : First → Spells Stmt
    statement_from (first.Int at) = int_statement at
    statement_from (first.Secret at) = secret_statement at
    statement_from (first.For at) = loop at
    statement_from (first.If at) = choice at
    statement_from (first.Name name) = assignment name

    -- "int" .. | "secret" .. | "for" .. | "if" .. | Word ..
    abbrev pub statement : Spells Stmt
    statement = do
      f ← known first_of
      statement_from f

    -- "{" { stmt } "}"
    abbrev pub braces : Spells (List Stmt)
    braces = do
      open_brace ← token k.OpenBrace
      xs ← Many statement
      close_brace ← token k.CloseBrace
      yields xs

  -- a block with d open at most; the last word says what stands for a block where none may open
  unfoldable pub block_or : Spells (List Stmt) → ℕ → Spells (List Stmt)
  block_or last zero = last
  block_or last (suc d) = braces (block_or last d)

abbrev pub no_block : Spells (List Stmt)
no_block ts xs = ⊥

abbrev pub IsBlock : ℕ → ℕ → Spells (List Stmt)
IsBlock n d = block_or n no_block d

abbrev pub length_given : Spells (Option Num)
length_given = do
  len ← length_in_brackets
  yields (Some len)

abbrev pub no_length : Spells (Option Num)
no_length = yields None

-- ( "in" | "out" ) Word [ "[" Number "]" ]
abbrev pub param : Spells Param
param = do
  out ← known direction
  name ← word
  l ← length_given or no_length
  yields (record { output = out; name = name; len = l })

abbrev pub some_params : Spells (List Param)
some_params = do
  p ← param
  ps ← Many (after_comma param)
  yields (p ∷ ps)

abbrev pub no_params : Spells (List Param)
no_params = yields []

-- "params" Word ";"
abbrev pub preset_line : Spells Ident
preset_line = do
  params ← token k.Params
  preset ← word
  semi ← token k.Semi
  yields preset

-- "(" [ param { "," param } ] ")"
abbrev pub signature : Spells (List Param)
signature = do
  opens ← token k.Open
  ps ← no_params or some_params
  closes ← token k.Close
  yields ps

-- "params" Word ";" { def } "fn" Word "(" [ param { "," param } ] ")" block
abbrev pub source_with : ℕ → Spells (List Stmt) → Spells Source
source_with n block = do
  preset ← preset_line
  defs ← Many (definition n)
  fn ← token k.Fn
  name ← word
  ps ← signature
  xs ← block
  yields (record { params = preset; defs = defs; name = name; ports = ps; body = xs })

abbrev pub IsSource : ℕ → ℕ → Spells Source
IsSource n d = source_with n (IsBlock n d)
