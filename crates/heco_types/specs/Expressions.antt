-- The sites of expressions.
use Rattle.std.specs.Prelude.{ℕ, Bool, true, false, List, [], ◌∷◌, length}
use Rattle.heco_syntax.specs.declared.tree.Ident.{Ident}
use Rattle.heco_syntax.specs.declared.tree.Expr.{Expr, fold-Expr}
use Rattle.heco_syntax.specs.declared.tree.Expr.TheOpen.{Expr-F, SumPart-F, ProdPart-F}
use Rattle.heco_syntax.specs.declared.tree.SumPart.{SumPart, fold-SumPart}
use Rattle.heco_syntax.specs.declared.tree.ProdPart.{ProdPart, fold-ProdPart}
use Rattle.heco_types.specs.Names.{Name}
use Rattle.heco_types.specs.Sites.{Report, site}
use Rattle.heco_types.specs.Table.{uses, calls}
use Rattle.heco_types.specs.declared.context.Context.{Context}
use Rattle.heco_types.specs.declared.context.Context.TheVariants.{Index}

-- inside says whether an expression is the value of a definition
module _ {M : Type 0} (report : Report M) (inside : Bool) where
  -- a name that is called, with so many arguments
  abbrev pub invoked : ℕ → Ident → Context → List Name → M
  invoked count name context names = report.test (site name.at name.text (calls context count inside) names)

  -- a name that is used, with an index or without one
  abbrev pub used : Bool → Ident → Context → List Name → M
  used indexed name context names = report.test (site name.at name.text (uses context indexed) names)

  -- what is told of an expression, by where it stands and what is visible
  abbrev pub Told : Type 0
  Told = Context → List Name → M

  abbrev pub each : List Told → Told
  each [] context names = report.nothing
  each (t ∷ ts) context names = report.next (t context names) (each ts context names)

  abbrev pub of_layer : Expr-F Told Told Told → Told
  of_layer (Expr-F.Lit n) context names = report.nothing
  of_layer (Expr-F.One name) context names = used false name context names
  of_layer (Expr-F.Item name index) context names = report.next (used true name context names) (index Index names)
  of_layer (Expr-F.Neg at of) context names = of context names
  of_layer (Expr-F.Sum first rest) context names = report.next (first context names) (each rest context names)
  of_layer (Expr-F.Prod first rest) context names = report.next (first context names) (each rest context names)
  of_layer (Expr-F.Call name args) context names = report.next (invoked (length args) name context names) (each args context names)

  abbrev pub of_product_layer : ProdPart-F Told Told Told → Told
  of_product_layer p = p.of

  abbrev pub of_sum_layer : SumPart-F Told Told Told → Told
  of_sum_layer p = p.of

  abbrev pub of_expr : Expr → Told
  of_expr e = fold-Expr Told Told Told of_layer of_product_layer of_sum_layer e

  abbrev pub of_product : ProdPart → Told
  of_product p = fold-ProdPart Told Told Told of_layer of_product_layer of_sum_layer p

  abbrev pub of_sum : SumPart → Told
  of_sum p = fold-SumPart Told Told Told of_layer of_product_layer of_sum_layer p
