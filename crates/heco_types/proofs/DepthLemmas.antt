-- How deep the definitions go that an expression calls, by its parts.
use Rattle.std.proofs.Common.{◌≡◌, ◌∙◌, ap, sym, ℕ, true, List, map, length}
use Rattle.std.proofs.lemmas.List.{length-map}
use Rattle.std.specs.Prelude.{max}
use Rattle.heco_syntax.specs.declared.tree.Expr.{Expr}
use Rattle.heco_syntax.specs.declared.tree.Expr.TheFolds.{fold-roll-Expr}
use Rattle.heco_syntax.specs.declared.tree.Expr.TheOpen.{Expr-F}
use Rattle.heco_syntax.specs.declared.tree.Expr.TheVariants as e
use Rattle.heco_syntax.specs.declared.tree.Ident.{Ident}
use Rattle.heco_syntax.specs.declared.tree.ProdPart.{ProdPart}
use Rattle.heco_syntax.specs.declared.tree.SumPart.{SumPart}
use Rattle.heco_types.specs.Expressions.{Told, invoked, each, of_layer, of_product_layer, of_sum_layer, of_expr, of_product, of_sum}
use Rattle.heco_types.specs.Names.{Name}
use Rattle.heco_types.specs.Sites.{deepest}
use Rattle.heco_types.specs.declared.context.Context.{Context}

abbrev T : Type 0
T = Told deepest true

abbrev depth : Expr → T
depth x = of_expr deepest true x

told_sum : (first : Expr) (rest : List SumPart) → depth (e.Sum first rest) ≡ of_layer deepest true (Expr-F.Sum (depth first) (map (of_sum deepest true) rest))
told_sum first rest = ap depth (sym (e.rolls-Sum first rest)) ∙ fold-roll-Expr T T T (of_layer deepest true) (of_product_layer deepest true) (of_sum_layer deepest true) (Expr-F.Sum first rest)

told_product : (first : Expr) (rest : List ProdPart) → depth (e.Prod first rest) ≡ of_layer deepest true (Expr-F.Prod (depth first) (map (of_product deepest true) rest))
told_product first rest = ap depth (sym (e.rolls-Prod first rest)) ∙ fold-roll-Expr T T T (of_layer deepest true) (of_product_layer deepest true) (of_sum_layer deepest true) (Expr-F.Prod first rest)

told_call : (id : Ident) (args : List Expr) → depth (e.Call id args) ≡ of_layer deepest true (Expr-F.Call id (map depth args))
told_call id args = ap depth (sym (e.rolls-Call id args)) ∙ fold-roll-Expr T T T (of_layer deepest true) (of_product_layer deepest true) (of_sum_layer deepest true) (Expr-F.Call id args)

module _ (x : Expr) (context : Context) (names : List Name) (a b : ℕ) where
  pub depth_sum : (first one : Expr) (rest more : List SumPart) → x ≡ e.Sum first rest → one ≡ first → more ≡ rest → a ≡ depth one context names → b ≡ each deepest true (map (of_sum deepest true) more) context names
      → max a b ≡ depth x context names
  depth_sum first one rest more is same_one same_rest ha hb =
      ap (λ v. max v b) (ha ∙ ap (λ y. depth y context names) same_one)
      ∙ ap (λ v. max (depth first context names) v) (hb ∙ ap (λ ps. each deepest true (map (of_sum deepest true) ps) context names) same_rest)
      ∙ sym (ap (λ y. depth y context names) is ∙ ap (λ f. f context names) (told_sum first rest))

  pub depth_product : (first one : Expr) (rest more : List ProdPart) → x ≡ e.Prod first rest → one ≡ first → more ≡ rest → a ≡ depth one context names → b ≡ each deepest true (map (of_product deepest true) more) context names
      → max a b ≡ depth x context names
  depth_product first one rest more is same_one same_rest ha hb =
      ap (λ v. max v b) (ha ∙ ap (λ y. depth y context names) same_one)
      ∙ ap (λ v. max (depth first context names) v) (hb ∙ ap (λ ps. each deepest true (map (of_product deepest true) ps) context names) same_rest)
      ∙ sym (ap (λ y. depth y context names) is ∙ ap (λ f. f context names) (told_product first rest))

  pub depth_call : (id : Ident) (args more : List Expr) (count : ℕ) → x ≡ e.Call id args → count ≡ length args → more ≡ args → a ≡ invoked deepest true count id context names
      → b ≡ each deepest true (map depth more) context names → max a b ≡ depth x context names
  depth_call id args more count is same_count same_args ha hb =
      ap (λ v. max v b) (ha ∙ ap (λ n. invoked deepest true n id context names) (same_count ∙ sym (length-map args depth)))
      ∙ ap (λ v. max (invoked deepest true (length (map depth args)) id context names) v) (hb ∙ ap (λ xs. each deepest true (map depth xs) context names) same_args)
      ∙ sym (ap (λ y. depth y context names) is ∙ ap (λ f. f context names) (told_call id args))
