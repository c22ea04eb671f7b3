-- The tree of the source.
use Rattle.std.proofs.Common.{ℕ, true, false, List, [], ◌∷◌, Some, None, codes}
use Rattle.heco_lex.specs.declared.place.Place.{Place}
use Rattle.heco_syntax.specs.Parts.{product_part}
use Rattle.heco_syntax.specs.declared.tree.Expr.{Expr}
use Rattle.heco_syntax.specs.declared.tree.Expr.TheVariants as e
use Rattle.heco_syntax.specs.declared.tree.Ident.{Ident}
use Rattle.heco_syntax.specs.declared.tree.Num.{Num}
use Rattle.heco_syntax.specs.declared.tree.Param.{Param}
use Rattle.heco_syntax.specs.declared.tree.SetOp.TheVariants.{Add}
use Rattle.heco_syntax.specs.declared.tree.Source.{Source}
use Rattle.heco_syntax.specs.declared.tree.Stmt.{Stmt}
use Rattle.heco_syntax.specs.declared.tree.Stmt.TheVariants as s

-- a place on the second line
abbrev pub at : ℕ → Place
at col = record { line = 2; col = col }

abbrev pub named : List ℕ → ℕ → Ident
named text col = record { text = text; at = at col }

abbrev pub number : ℕ → ℕ → Num
number n col = record { value = n; at = at col }

abbrev pub array : List ℕ → ℕ → ℕ → Param
array text col len_col = record { output = false; name = named text col; len = Some (number 512 len_col) }

abbrev pub ports : List Param
ports = array (codes "a") 11 13 ∷ array (codes "b") 22 24 ∷ record { output = true; name = named (codes "s") 34; len = None } ∷ []

-- 0, 512, a[i], b[i], a[i]*b[i]
unfoldable pub low : Expr
low = e.Lit (number 0 48)

unfoldable pub high : Expr
high = e.Lit (number 512 51)

unfoldable pub of_a : Expr
of_a = e.Item (named (codes "a") 62) (e.One (named (codes "i") 64))

unfoldable pub of_b : Expr
of_b = e.Item (named (codes "b") 67) (e.One (named (codes "i") 69))

unfoldable pub product : Expr
product = e.Prod of_a (product_part (at 66) of_b ∷ [])

-- s += a[i]*b[i];
unfoldable pub addition : Stmt
addition = s.Set (named (codes "s") 57) None Add (at 59) product

-- for i in 0..512 { s += a[i]*b[i]; }
unfoldable pub loop : Stmt
loop = s.Loop (at 39) (named (codes "i") 43) low high (addition ∷ [])

abbrev pub tree : Source
tree = record { params = record { text = codes "q512"; at = record { line = 1; col = 8 } }; defs = []; name = named (codes "dot") 4; ports = ports; body = loop ∷ [] }
