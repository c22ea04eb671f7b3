-- What an expression keeps is picked from its tokens.
use Rattle.std.proofs.Common.{◌≡◌, ◌∙◌, sym, ap, subst, ℕ, List, [], ◌∷◌, ◌++◌, Bool, Some, None, Option, append-nil}
use Rattle.std.proofs.lemmas.List.Folds.{flat_map-map}
use Rattle.std.specs.List.{flat_map}
use Rattle.heco_lex.specs.declared.place.Place.{Place}
use Rattle.heco_lex.specs.declared.token.TokenKind.{TokenKind}
use Rattle.heco_lex.specs.declared.token.TokenKind.TheVariants as k
use Rattle.heco_syntax.specs.Grammar.{IsFactor, AreArguments, AreFurther, IsProduct, AreFactors, IsSum, AreProducts, literal, name, item, negative, group, call, no_argument, arguments, no_further, further, product, no_factor, factors, sum, no_product, products}
use Rattle.heco_syntax.specs.Kept.{Kept, kept_ident, kept_num, kept_place, kept_step, kept_sum_step, kept_product_step, kept_sum_part, kept_product_part, kept_expr}
use Rattle.heco_syntax.specs.Parts.{ident_of, num_of, with_place, sum_sign_of, product_sign_by, sum_part, product_part, sum_of, product_of}
use Rattle.heco_syntax.specs.declared.lexeme.Lexeme.{Lexeme}
use Rattle.heco_syntax.specs.declared.tree.Expr.{Expr, fold-roll-Expr}
use Rattle.heco_syntax.specs.declared.tree.Expr.TheOpen.{Expr-F}
use Rattle.heco_syntax.specs.declared.tree.Expr.TheVariants as e
use Rattle.heco_syntax.specs.declared.tree.Ident.{Ident}
use Rattle.heco_syntax.specs.declared.tree.Num.{Num}
use Rattle.heco_syntax.specs.declared.tree.ProdPart.{ProdPart, fold-roll-ProdPart}
use Rattle.heco_syntax.specs.declared.tree.SumPart.{SumPart, fold-roll-SumPart}
use Rattle.heco_order.proofs.Picked.{Picks, ended, skip, pick, behind, passed, place_kept, word_kept}

kept_lit : (n : Num) → kept_expr (e.Lit n) ≡ kept_num n
kept_lit n = ap kept_expr (sym (e.rolls-Lit n)) ∙ fold-roll-Expr (List Kept) (List Kept) (List Kept) kept_step kept_product_step kept_sum_step (Expr-F.Lit n)

kept_one : (id : Ident) → kept_expr (e.One id) ≡ kept_ident id
kept_one id = ap kept_expr (sym (e.rolls-One id)) ∙ fold-roll-Expr (List Kept) (List Kept) (List Kept) kept_step kept_product_step kept_sum_step (Expr-F.One id)

kept_item : (id : Ident) (x : Expr) → kept_expr (e.Item id x) ≡ kept_ident id ++ kept_expr x
kept_item id x = ap kept_expr (sym (e.rolls-Item id x)) ∙ fold-roll-Expr (List Kept) (List Kept) (List Kept) kept_step kept_product_step kept_sum_step (Expr-F.Item id x)

kept_call : (id : Ident) (xs : List Expr) → kept_expr (e.Call id xs) ≡ kept_ident id ++ flat_map kept_expr xs
kept_call id xs = ap kept_expr (sym (e.rolls-Call id xs)) ∙ fold-roll-Expr (List Kept) (List Kept) (List Kept) kept_step kept_product_step kept_sum_step (Expr-F.Call id xs)
    ∙ ap (λ v. kept_ident id ++ v) (flat_map-map (λ p. p) kept_expr xs)

kept_neg : (at : Place) (x : Expr) → kept_expr (e.Neg at x) ≡ kept_place at ++ kept_expr x
kept_neg at x = ap kept_expr (sym (e.rolls-Neg at x)) ∙ fold-roll-Expr (List Kept) (List Kept) (List Kept) kept_step kept_product_step kept_sum_step (Expr-F.Neg at x)

kept_sum : (first : Expr) (ps : List SumPart) → kept_expr (e.Sum first ps) ≡ kept_expr first ++ flat_map kept_sum_part ps
kept_sum first ps = ap kept_expr (sym (e.rolls-Sum first ps)) ∙ fold-roll-Expr (List Kept) (List Kept) (List Kept) kept_step kept_product_step kept_sum_step (Expr-F.Sum first ps)
    ∙ ap (λ v. kept_expr first ++ v) (flat_map-map (λ p. p) kept_sum_part ps)

kept_prod : (first : Expr) (ps : List ProdPart) → kept_expr (e.Prod first ps) ≡ kept_expr first ++ flat_map kept_product_part ps
kept_prod first ps = ap kept_expr (sym (e.rolls-Prod first ps)) ∙ fold-roll-Expr (List Kept) (List Kept) (List Kept) kept_step kept_product_step kept_sum_step (Expr-F.Prod first ps)
    ∙ ap (λ v. kept_expr first ++ v) (flat_map-map (λ p. p) kept_product_part ps)

kept_sum_of : (first : Expr) (ps : List SumPart) → kept_expr (sum_of first ps) ≡ kept_expr first ++ flat_map kept_sum_part ps
kept_sum_of first [] = sym (append-nil (kept_expr first))
kept_sum_of first (p ∷ ps) = kept_sum first (p ∷ ps)

kept_product_of : (first : Expr) (ps : List ProdPart) → kept_expr (product_of first ps) ≡ kept_expr first ++ flat_map kept_product_part ps
kept_product_of first [] = sym (append-nil (kept_expr first))
kept_product_of first (p ∷ ps) = kept_prod first (p ∷ ps)

kept_sums : (s : Bool × Place) (x : Expr) → kept_sum_part (sum_part s x) ≡ kept_place s.1 ++ kept_expr x
kept_sums s x = fold-roll-SumPart (List Kept) (List Kept) (List Kept) kept_step kept_product_step kept_sum_step (record { minus = s.0; at = s.1; of = x })

kept_prods : (at : Place) (x : Expr) → kept_product_part (product_part at x) ≡ kept_place at ++ kept_expr x
kept_prods at x = fold-roll-ProdPart (List Kept) (List Kept) (List Kept) kept_step kept_product_step kept_sum_step (record { at = at; of = x })

pub placed : {A : Type 0} (at : Place) (o : Option A) (s : A × Place) → with_place at o ≡ Some s → s.1 ≡ at
placed at None s h = cc
placed at (Some x) s h = let p : ◌≡◌ {A = _ × Place} (x, at) s = cc in ap (λ q. q.1) (sym p)

star_placed : (at : Place) (a : TokenKind) (place : Place) → product_sign_by at a ≡ Some place → place ≡ at
star_placed at k.Star place h = cc
star_placed at a place h = cc

sign_picked : (t : Lexeme) (place : Place) → place ≡ t.at → {ts : List Lexeme} {xs : List Kept} → Picks ts xs → Picks (t ∷ ts) (kept_place place ++ xs)
sign_picked t place h {ts} {xs} p = subst (λ (v : Place). Picks (t ∷ ts) (kept_place v ++ xs)) (sym h) (pick (place_kept t) p)

mutual
  factor_picked : {n : ℕ} {ts : List Lexeme} {x : Expr} → IsFactor n ts x → Picks ts (kept_expr x)
  factor_picked (literal {t = t} h is) = subst (λ v. Picks (t ∷ []) v) (sym (ap kept_expr is ∙ kept_lit (num_of t))) (pick (place_kept t) ended)
  factor_picked (name {t = t} h is) = subst (λ v. Picks (t ∷ []) v) (sym (ap kept_expr is ∙ kept_one (ident_of t))) (pick (word_kept t h) ended)
  factor_picked (item {w = w} {o = o} c {ts = ts} {i = i} h ho inner hc is) =
      subst (λ v. Picks (w ∷ o ∷ (ts ++ c ∷ [])) v) (sym (ap kept_expr is ∙ kept_item (ident_of w) i)) (pick (word_kept w h) (skip (passed c (sum_picked inner))))
  factor_picked (negative {t = t} {ts = ts} {y = y} h i is) = subst (λ v. Picks (t ∷ ts) v) (sym (ap kept_expr is ∙ kept_neg t.at y)) (pick (place_kept t) (factor_picked i))
  factor_picked (group c ho i hc) = skip (passed c (sum_picked i))
  factor_picked (call {w = w} {o = o} c {ts = ts} {args = xs} h ho inner hc is) =
      subst (λ v. Picks (w ∷ o ∷ (ts ++ c ∷ [])) v) (sym (ap kept_expr is ∙ kept_call (ident_of w) xs)) (pick (word_kept w h) (skip (passed c (arguments_picked inner))))

  arguments_picked : {n : ℕ} {ts : List Lexeme} {xs : List Expr} → AreArguments n ts xs → Picks ts (flat_map kept_expr xs)
  arguments_picked no_argument = ended
  arguments_picked (arguments i a) = behind (sum_picked i) (further_picked a)

  further_picked : {n : ℕ} {ts : List Lexeme} {xs : List Expr} → AreFurther n ts xs → Picks ts (flat_map kept_expr xs)
  further_picked no_further = ended
  further_picked (further s i a) = skip (behind (sum_picked i) (further_picked a))

  product_picked : {n : ℕ} {ts : List Lexeme} {x : Expr} → IsProduct n ts x → Picks ts (kept_expr x)
  product_picked (product {ts = ts} {us = us} {first = first} {ps = ps} i a is) = subst (λ v. Picks (ts ++ us) v) (sym (ap kept_expr is ∙ kept_product_of first ps)) (behind (factor_picked i) (factors_picked a))

  factors_picked : {n : ℕ} {us : List Lexeme} {ps : List ProdPart} → AreFactors n us ps → Picks us (flat_map kept_product_part ps)
  factors_picked no_factor = ended
  factors_picked (factors {t = t} {at = at} {ts = ts} {us = us} {x = x} {ps = ps} s i a) =
      subst (λ v. Picks (t ∷ (ts ++ us)) (v ++ flat_map kept_product_part ps)) (sym (kept_prods at x)) (sign_picked t at (star_placed t.at t.kind at s) (behind (factor_picked i) (factors_picked a)))

  pub sum_picked : {n : ℕ} {ts : List Lexeme} {x : Expr} → IsSum n ts x → Picks ts (kept_expr x)
  sum_picked (sum {ts = ts} {us = us} {first = first} {ps = ps} i a is) = subst (λ v. Picks (ts ++ us) v) (sym (ap kept_expr is ∙ kept_sum_of first ps)) (behind (product_picked i) (products_picked a))

  products_picked : {n : ℕ} {us : List Lexeme} {ps : List SumPart} → AreProducts n us ps → Picks us (flat_map kept_sum_part ps)
  products_picked no_product = ended
  products_picked (products {t = t} {sign = g} {ts = ts} {us = us} {x = x} {ps = ps} s i a) =
      subst (λ v. Picks (t ∷ (ts ++ us)) (v ++ flat_map kept_sum_part ps)) (sym (kept_sums g x)) (sign_picked t g.1 (placed t.at (sum_sign_of t.kind) g s) (behind (product_picked i) (products_picked a)))
