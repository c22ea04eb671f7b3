-- Folds over a tree, node by node.
use Rattle.std.proofs.Common.{◌≡◌, ◌∙◌, sym, ap, List, map}
use Rattle.std.specs.declared.option.Option.{Option}
use Rattle.heco_lex.specs.declared.place.Place.{Place}
use Rattle.heco_syntax.specs.Parts.{product_part}
use Rattle.heco_syntax.specs.declared.tree.Expr.{Expr, fold-Expr, fold-roll-Expr}
use Rattle.heco_syntax.specs.declared.tree.Expr.TheOpen.{Expr-F, SumPart-F, ProdPart-F}
use Rattle.heco_syntax.specs.declared.tree.Expr.TheVariants as e
use Rattle.heco_syntax.specs.declared.tree.Ident.{Ident}
use Rattle.heco_syntax.specs.declared.tree.Num.{Num}
use Rattle.heco_syntax.specs.declared.tree.ProdPart.{ProdPart, fold-ProdPart, fold-roll-ProdPart}
use Rattle.heco_syntax.specs.declared.tree.SetOp.{SetOp}
use Rattle.heco_syntax.specs.declared.tree.Stmt.{Stmt, fold-Stmt}
use Rattle.heco_syntax.specs.declared.tree.Stmt.TheFolds.{fold-roll-Stmt}
use Rattle.heco_syntax.specs.declared.tree.Stmt.TheOpen.{Stmt-F}
use Rattle.heco_syntax.specs.declared.tree.Stmt.TheVariants as s

module _ {A P S : Type 0} (step : Expr-F A P S → A) (product_step : ProdPart-F A P S → P) (sum_step : SumPart-F A P S → S) where
  abbrev pub of_expr : Expr → A
  of_expr x = fold-Expr A P S step product_step sum_step x

  abbrev pub of_part : ProdPart → P
  of_part p = fold-ProdPart A P S step product_step sum_step p

  pub of_number : (n : Num) → of_expr (e.Lit n) ≡ step (Expr-F.Lit n)
  of_number n = ap of_expr (sym (e.rolls-Lit n)) ∙ fold-roll-Expr A P S step product_step sum_step (Expr-F.Lit n)

  pub of_name : (name : Ident) → of_expr (e.One name) ≡ step (Expr-F.One name)
  of_name name = ap of_expr (sym (e.rolls-One name)) ∙ fold-roll-Expr A P S step product_step sum_step (Expr-F.One name)

  pub of_item : (name : Ident) (index : Expr) → of_expr (e.Item name index) ≡ step (Expr-F.Item name (of_expr index))
  of_item name index = ap of_expr (sym (e.rolls-Item name index)) ∙ fold-roll-Expr A P S step product_step sum_step (Expr-F.Item name index)

  pub of_product : (first : Expr) (rest : List ProdPart) → of_expr (e.Prod first rest) ≡ step (Expr-F.Prod (of_expr first) (map of_part rest))
  of_product first rest = ap of_expr (sym (e.rolls-Prod first rest)) ∙ fold-roll-Expr A P S step product_step sum_step (Expr-F.Prod first rest)

  pub of_factor : (at : Place) (x : Expr) → of_part (product_part at x) ≡ product_step (record { at = at; of = of_expr x })
  of_factor at x = fold-roll-ProdPart A P S step product_step sum_step (record { at = at; of = x })

module _ {A : Type 0} (step : Stmt-F A → A) where
  abbrev pub of_stmt : Stmt → A
  of_stmt x = fold-Stmt A step x

  pub of_assignment : (name : Ident) (index : Option Expr) (op : SetOp) (at : Place) (value : Expr) → of_stmt (s.Set name index op at value) ≡ step (Stmt-F.Set name index op at value)
  of_assignment name index op at value = ap of_stmt (sym (s.rolls-Set name index op at value)) ∙ fold-roll-Stmt A step (Stmt-F.Set name index op at value)

  pub of_loop : (at : Place) (name : Ident) (low high : Expr) (body : List Stmt) → of_stmt (s.Loop at name low high body) ≡ step (Stmt-F.Loop at name low high (map of_stmt body))
  of_loop at name low high body = ap of_stmt (sym (s.rolls-Loop at name low high body)) ∙ fold-roll-Stmt A step (Stmt-F.Loop at name low high body)
