-- What a tree keeps of a token, and trees made of parts.
use Rattle.std.specs.Prelude.{List, [], ◌∷◌, true, false, Bool, Option, Some, None}
use Rattle.heco_lex.specs.declared.place.Place.{Place}
use Rattle.heco_lex.specs.declared.token.TokenKind.{TokenKind}
use Rattle.heco_lex.specs.declared.token.TokenKind.TheVariants as k
use Rattle.heco_syntax.specs.declared.first.First.{First}
use Rattle.heco_syntax.specs.declared.first.First.TheVariants as first
use Rattle.heco_syntax.specs.declared.lexeme.Lexeme.{Lexeme}
use Rattle.heco_syntax.specs.declared.tree.Expr.{Expr}
use Rattle.heco_syntax.specs.declared.tree.Expr.TheVariants as e
use Rattle.heco_syntax.specs.declared.tree.Ident.{Ident}
use Rattle.heco_syntax.specs.declared.tree.Num.{Num}
use Rattle.heco_syntax.specs.declared.tree.ProdPart.{ProdPart, roll-ProdPart}
use Rattle.heco_syntax.specs.declared.tree.SetOp.{SetOp}
use Rattle.heco_syntax.specs.declared.tree.SetOp.TheVariants as op
use Rattle.heco_syntax.specs.declared.tree.SumPart.{SumPart, roll-SumPart}

abbrev pub place_of : Lexeme → Place
place_of t = t.at

abbrev pub ident_of : Lexeme → Ident
ident_of t = record { text = t.text; at = t.at }

abbrev pub num_of : Lexeme → Num
num_of t = record { value = t.value; at = t.at }

abbrev pub with_place : {A : Type 0} → Place → Option A → Option (A × Place)
with_place at None = None
with_place at (Some x) = Some (x, at)

abbrev pub sum_sign_of : TokenKind → Option Bool
sum_sign_of k.Plus = Some false
sum_sign_of k.Minus = Some true
sum_sign_of kind = None

-- a sign before a further member of a sum: whether it is a minus, and its place
abbrev pub sum_sign : Lexeme → Option (Bool × Place)
sum_sign t = with_place t.at (sum_sign_of t.kind)

abbrev pub product_sign_by : Place → TokenKind → Option Place
product_sign_by at k.Star = Some at
product_sign_by at kind = None

abbrev pub product_sign : Lexeme → Option Place
product_sign t = product_sign_by t.at t.kind

abbrev pub comma_by : Place → TokenKind → Option Place
comma_by at k.Comma = Some at
comma_by at kind = None

abbrev pub comma : Lexeme → Option Place
comma t = comma_by t.at t.kind

abbrev pub def_sign_by : Place → TokenKind → Option Place
def_sign_by at k.Def = Some at
def_sign_by at kind = None

-- the "def" that begins a definition
abbrev pub def_sign : Lexeme → Option Place
def_sign t = def_sign_by t.at t.kind

abbrev pub set_op_of : TokenKind → Option SetOp
set_op_of k.Assign = Some op.Put
set_op_of k.AddAssign = Some op.Add
set_op_of k.SubAssign = Some op.Sub
set_op_of k.MulAssign = Some op.Mul
set_op_of kind = None

-- the operator of an assignment, and its place
abbrev pub set_op : Lexeme → Option (SetOp × Place)
set_op t = with_place t.at (set_op_of t.kind)

abbrev pub direction_of : TokenKind → Option Bool
direction_of k.In = Some false
direction_of k.Out = Some true
direction_of kind = None

-- whether a parameter is an output
abbrev pub direction : Lexeme → Option Bool
direction t = direction_of t.kind

abbrev pub first_by : Lexeme → TokenKind → Option First
first_by t k.Int = Some (first.Int t.at)
first_by t k.Secret = Some (first.Secret t.at)
first_by t k.For = Some (first.For t.at)
first_by t k.If = Some (first.If t.at)
first_by t k.Word = Some (first.Name (ident_of t))
first_by t kind = None

-- the first token of a statement
abbrev pub first_of : Lexeme → Option First
first_of t = first_by t t.kind

abbrev pub sum_part : Bool × Place → Expr → SumPart
sum_part s x = roll-SumPart (record { minus = s.0; at = s.1; of = x })

abbrev pub product_part : Place → Expr → ProdPart
product_part at x = roll-ProdPart (record { at = at; of = x })

-- a sum of a first member and more
abbrev pub sum_of : Expr → List SumPart → Expr
sum_of first [] = first
sum_of first (p ∷ ps) = e.Sum first (p ∷ ps)

abbrev pub product_of : Expr → List ProdPart → Expr
product_of first [] = first
product_of first (p ∷ ps) = e.Prod first (p ∷ ps)
