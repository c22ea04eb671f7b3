-- Reading from the front, as functions on tokens.
use Rattle.std.specs.Prelude.{◌≡◌, ℕ, zero, suc, List, [], ◌∷◌, ◌++◌, length, false, Bool, Result, Ok, Err, Option, Some, None, ◌==◌, if◌then◌else◌}
use Rattle.heco_lex.specs.declared.place.Place.{Place}
use Rattle.heco_lex.specs.declared.token.TokenKind.{TokenKind}
use Rattle.heco_lex.specs.declared.token.TokenKind.TheVariants as k
use Rattle.heco_syntax.specs.Parts.{place_of, ident_of, num_of, comma, sum_sign, product_sign, sum_part, product_part, sum_of, product_of}
use Rattle.heco_syntax.specs.declared.lexeme.Lexeme.{Lexeme}
use Rattle.heco_expressions.specs.declared.cursor.Start.{Start}
use Rattle.heco_expressions.specs.declared.cursor.Start.TheVariants as starts
use Rattle.heco_syntax.specs.declared.tree.Expr.{Expr}
use Rattle.heco_syntax.specs.declared.tree.Expr.TheVariants as e
use Rattle.heco_syntax.specs.declared.tree.Ident.{Ident}
use Rattle.heco_syntax.specs.declared.tree.Num.{Num}
use Rattle.heco_expressions.specs.declared.stop.Stop.{Stop}
use Rattle.heco_expressions.specs.declared.stop.Stop.TheVariants as stop

-- a value and the tokens behind it, or the tokens from the one on at which reading stopped
pub data Outcome (A : Type 0) : Type 0 where
  found : A → List Lexeme → Outcome A
  syntax : List Lexeme → Outcome A
  nested : List Lexeme → Outcome A

abbrev pub Parser : Type 0 → Type 0
Parser A = List Lexeme → Outcome A

abbrev pub and_then : {A B : Type 0} → Outcome A → (A → Parser B) → Outcome B
and_then (found x ts) f = f x ts
and_then (syntax ts) f = syntax ts
and_then (nested ts) f = nested ts

abbrev pub gives : {A B : Type 0} → (A → B) → A → Parser B
gives f x ts = found (f x) ts

abbrev pub Reads : {A : Type 0} → Outcome A → Result A Stop → List Lexeme → Type 0
Reads outcome (Ok x) left = outcome ≡ found x left
Reads outcome (Err stop.Memory) left = Unit {0}
Reads outcome (Err stop.Syntax) left = outcome ≡ syntax left
Reads outcome (Err stop.TooNested) left = outcome ≡ nested left

-- the place of the next token
abbrev pub front_place : List Lexeme → Option Place
front_place [] = None
front_place (t ∷ ts) = Some t.at

abbrev pub kind_number : TokenKind → ℕ
kind_number k.Word = 0
kind_number k.Number = 1
kind_number k.Params = 2
kind_number k.Fn = 3
kind_number k.In = 4
kind_number k.Out = 5
kind_number k.Int = 6
kind_number k.Secret = 7
kind_number k.For = 8
kind_number k.Def = 9
kind_number k.If = 10
kind_number k.Else = 11
kind_number k.Open = 12
kind_number k.Close = 13
kind_number k.OpenBrace = 14
kind_number k.CloseBrace = 15
kind_number k.OpenBracket = 16
kind_number k.CloseBracket = 17
kind_number k.Comma = 18
kind_number k.Semi = 19
kind_number k.Range = 20
kind_number k.Assign = 21
kind_number k.AddAssign = 22
kind_number k.SubAssign = 23
kind_number k.MulAssign = 24
kind_number k.Plus = 25
kind_number k.Minus = 26
kind_number k.Star = 27

abbrev pub same_kind : TokenKind → TokenKind → Bool
same_kind a b = kind_number a == kind_number b

abbrev pub is_at : TokenKind → List Lexeme → Bool
is_at kind [] = false
is_at kind (t ∷ ts) = same_kind t.kind kind

-- a token of the kind, and what is kept of it
abbrev pub take_one : {A : Type 0} → (Lexeme → A) → TokenKind → Parser A
take_one f kind [] = syntax []
take_one f kind (t ∷ ts) = if same_kind t.kind kind then found (f t) ts else syntax (t ∷ ts)

abbrev pub expect : TokenKind → Parser Place
expect kind = take_one place_of kind

abbrev pub word : Parser Ident
word = take_one ident_of k.Word

abbrev pub number : Parser Num
number = take_one num_of k.Number

abbrev pub start_of : TokenKind → Start
start_of k.Number = starts.Number
start_of k.Word = starts.Word
start_of k.Minus = starts.Minus
start_of k.Open = starts.Open
start_of kind = starts.Other

abbrev pub start : List Lexeme → Start
start [] = starts.Other
start (t ∷ ts) = start_of t.kind

-- the sign at the front, and what follows it
abbrev pub behind : {S : Type 0} → List Lexeme → Option S → Option (S × List Lexeme)
behind ts None = None
behind ts (Some s) = Some (s, ts)

abbrev pub signed : {S : Type 0} → (Lexeme → Option S) → List Lexeme → Option (S × List Lexeme)
signed sign [] = None
signed sign (t ∷ ts) = behind ts (sign t)

-- one token that the function knows
abbrev pub picked : {S : Type 0} → Lexeme → List Lexeme → Option S → Outcome S
picked t ts None = syntax (t ∷ ts)
picked t ts (Some s) = found s ts

abbrev pub pick : {S : Type 0} → (Lexeme → Option S) → Parser S
pick sign [] = syntax []
pick sign (t ∷ ts) = picked t ts (sign t)

module _ {S P A : Type 0} (sign : Lexeme → Option S) (make : S → A → P) (item : Parser A) where
  abbrev pub parts_by : (List P → Parser (List P)) → List P → List Lexeme → Option (S × List Lexeme) → Outcome (List P)
  parts_by next before ts None = found before ts
  parts_by next before ts (Some p) = and_then (item p.1) (λ x. next (before ++ make p.0 x ∷ []))

  -- the further parts, at most n of them
  unfoldable pub parts_from : ℕ → List P → Parser (List P)
  parts_from zero before ts = found before ts
  parts_from (suc n) before ts = parts_by (parts_from n) before ts (signed sign ts)

module _ (factor : Parser Expr) where
  abbrev pub factors_after : Expr → Parser Expr
  factors_after first ts = and_then (parts_from product_sign product_part factor (length ts) [] ts) (gives (product_of first))

  unfoldable pub product : Parser Expr
  product ts = and_then (factor ts) factors_after

  abbrev pub products_after : Expr → Parser Expr
  products_after first ts = and_then (parts_from sum_sign sum_part product (length ts) [] ts) (gives (sum_of first))

  unfoldable pub sum : Parser Expr
  sum ts = and_then (product ts) products_after

abbrev pub closed : {A : Type 0} → TokenKind → (A → Expr) → A → Parser Expr
closed kind f x ts = and_then (expect kind ts) (gives (λ at. f x))

-- a name alone, where neither an index nor arguments may follow
abbrev pub named_flat : Ident → Parser Expr
named_flat name ts = if is_at k.OpenBracket ts then nested ts else if is_at k.Open ts then nested ts else found (e.One name) ts

module _ (factor : Parser Expr) where
  abbrev pub index_of : Ident → Parser Expr
  index_of name ts = and_then (sum factor ts) (closed k.CloseBracket (e.Item name))

  abbrev pub further : Expr → Parser (List Expr)
  further first ts = parts_from comma (λ at x. x) (sum factor) (length ts) (first ∷ []) ts

  -- the arguments of a call, up to its ")"
  unfoldable pub arguments : Parser (List Expr)
  arguments ts = if is_at k.Close ts then found [] ts else and_then (sum factor ts) further

  abbrev pub call_of : Ident → Parser Expr
  call_of name ts = and_then (arguments ts) (closed k.Close (e.Call name))

  abbrev pub indexed_deep : Ident → Parser Expr
  indexed_deep name ts = and_then (expect k.OpenBracket ts) (λ at. index_of name)

  abbrev pub called_deep : Ident → Parser Expr
  called_deep name ts = and_then (expect k.Open ts) (λ at. call_of name)

  abbrev pub named_deep : Ident → Parser Expr
  named_deep name ts = if is_at k.OpenBracket ts then indexed_deep name ts else if is_at k.Open ts then called_deep name ts else found (e.One name) ts

  abbrev pub group_of : Parser Expr
  group_of ts = and_then (sum factor ts) (closed k.Close (λ x. x))

  abbrev pub negative_of : Place → Parser Expr
  negative_of at ts = and_then (factor ts) (gives (e.Neg at))

  abbrev pub factor_deep : Start → Parser Expr
  factor_deep starts.Number ts = and_then (number ts) (gives e.Lit)
  factor_deep starts.Word ts = and_then (word ts) named_deep
  factor_deep starts.Minus ts = and_then (expect k.Minus ts) negative_of
  factor_deep starts.Open ts = and_then (expect k.Open ts) (λ at. group_of)
  factor_deep starts.Other ts = syntax ts

abbrev pub factor_flat : Start → Parser Expr
factor_flat starts.Number ts = and_then (number ts) (gives e.Lit)
factor_flat starts.Word ts = and_then (word ts) named_flat
factor_flat starts.Minus ts = nested ts
factor_flat starts.Open ts = nested ts
factor_flat starts.Other ts = syntax ts

-- a factor with n more levels
unfoldable pub factor : ℕ → Parser Expr
factor zero ts = factor_flat (start ts) ts
factor (suc n) ts = factor_deep (factor n) (start ts) ts

abbrev pub named_by : ℕ → Ident → Parser Expr
named_by zero = named_flat
named_by (suc n) = named_deep (factor n)

abbrev pub indexed : ℕ → Ident → Parser Expr
indexed zero name ts = nested ts
indexed (suc n) name ts = indexed_deep (factor n) name ts

abbrev pub called : ℕ → Ident → Parser Expr
called zero name ts = nested ts
called (suc n) name ts = called_deep (factor n) name ts

abbrev pub named : ℕ → Parser Expr
named n ts = and_then (word ts) (named_by n)

abbrev pub negative : ℕ → Parser Expr
negative zero ts = nested ts
negative (suc n) ts = and_then (expect k.Minus ts) (negative_of (factor n))

abbrev pub group : ℕ → Parser Expr
group zero ts = nested ts
group (suc n) ts = and_then (expect k.Open ts) (λ at. group_of (factor n))

abbrev pub factor_by : ℕ → Start → Parser Expr
factor_by n starts.Number ts = and_then (number ts) (gives e.Lit)
factor_by n starts.Word ts = named n ts
factor_by n starts.Minus ts = negative n ts
factor_by n starts.Open ts = group n ts
factor_by n starts.Other ts = syntax ts
