-- The tokens that an expression is printed as have the kinds of their texts.
use Rattle.std.proofs.Common.{◌≡◌, ◌∙◌, sym, ap, subst, refl, ℕ, List, [], ◌∷◌, ◌++◌, Bool, true, false}
use Rattle.std.specs.List.{flat_map}
use Rattle.std.specs.Prelude.{if◌then◌else◌, nat_lt}
use Rattle.heco_lex.specs.declared.place.Place.{Place}
use Rattle.heco_lex.specs.declared.token.TokenKind.TheVariants as k
use Rattle.heco_print.proofs.Prints.{spelled_lit, spelled_one, spelled_item, spelled_call, spelled_neg, spelled_sum, spelled_prod, spelled_sums, spelled_prods}
use Rattle.heco_print.specs.Spelling.{Spelled, spelled, expression, separated, spelled_sum_part, spelled_product_part, wrapped, mark, mark_at}
use Rattle.heco_syntax.specs.Grammar.{IsFactor, AreArguments, AreFurther, IsProduct, AreFactors, IsSum, AreProducts, literal, name, item, negative, group, call, no_argument, arguments, no_further, further, product, no_factor, factors, sum, no_product, products}
use Rattle.heco_syntax.specs.Parts.{ident_of, num_of}
use Rattle.heco_syntax.specs.declared.lexeme.Lexeme.{Lexeme}
use Rattle.heco_syntax.specs.declared.tree.Expr.{Expr}
use Rattle.heco_syntax.specs.declared.tree.ProdPart.{ProdPart}
use Rattle.heco_syntax.specs.declared.tree.SumPart.{SumPart}
use Rattle.heco_print_laws.proofs.Fitting.{Each, front_each, back_each, both_each, Fits, IsPlain, plain_word, plain_number}

abbrev Plain : Expr → Type 0
Plain x = Each IsPlain (spelled x).tokens

plain_by : (x : Expr) (s : Spelled) → spelled x ≡ s → Each IsPlain s.tokens → Plain x
plain_by x s e h = subst (λ (v : Spelled). Each IsPlain v.tokens) (sym e) h

plain_wrapped : (rank : ℕ) (x : Expr) → Plain x → Each IsPlain (wrapped rank (spelled x))
plain_wrapped rank x h = by (nat_lt rank (spelled x).rank)
  where
    by : (b : Bool) → Each IsPlain (if b then mark k.Open ∷ ((spelled x).tokens ++ mark k.Close ∷ []) else (spelled x).tokens)
    by true = (record { fits = refl; text = refl; value = refl }, both_each IsPlain (spelled x).tokens (mark k.Close ∷ []) h (record { fits = refl; text = refl; value = refl }, tt))
    by false = h

plain_sign : (b : Bool) (at : Place) → IsPlain (mark_at (if b then k.Minus else k.Plus) at)
plain_sign true at = record { fits = refl; text = refl; value = refl }
plain_sign false at = record { fits = refl; text = refl; value = refl }

mutual
  factor_plain : {n : ℕ} {ts : List Lexeme} {x : Expr} → IsFactor n ts x → Each Fits ts → Plain x
  factor_plain (literal {t = t} {x = x} h is) f = plain_by x _ (ap spelled is ∙ spelled_lit (num_of t)) (plain_number (num_of t) (f.0.number h), tt)
  factor_plain (name {t = t} {x = x} h is) f = plain_by x _ (ap spelled is ∙ spelled_one (ident_of t)) (plain_word (ident_of t) (f.0.word h), tt)
  factor_plain (item {w = w} c {ts = ts} {x = x} {i = y} h ho i hc is) f =
      plain_by x _ (ap spelled is ∙ spelled_item (ident_of w) y)
      (plain_word (ident_of w) (f.0.word h), (record { fits = refl; text = refl; value = refl }, both_each IsPlain (spelled y).tokens (mark k.CloseBracket ∷ []) (sum_plain i (front_each Fits ts (c ∷ []) f.1.1)) (record { fits = refl; text = refl; value = refl }, tt)))
  factor_plain (negative {t = t} {x = x} {y = y} h i is) f = plain_by x _ (ap spelled is ∙ spelled_neg t.at y) (record { fits = refl; text = refl; value = refl }, plain_wrapped 0 y (factor_plain i f.1))
  factor_plain (group c {ts = ts} ho i hc) f = sum_plain i (front_each Fits ts (c ∷ []) f.1)
  factor_plain (call {w = w} c {ts = ts} {x = x} {args = xs} h ho i hc is) f =
      plain_by x _ (ap spelled is ∙ spelled_call (ident_of w) xs)
      (plain_word (ident_of w) (f.0.word h), (record { fits = refl; text = refl; value = refl }, both_each IsPlain (separated expression xs) (mark k.Close ∷ []) (arguments_plain i (front_each Fits ts (c ∷ []) f.1.1)) (record { fits = refl; text = refl; value = refl }, tt)))

  arguments_plain : {n : ℕ} {ts : List Lexeme} {xs : List Expr} → AreArguments n ts xs → Each Fits ts → Each IsPlain (separated expression xs)
  arguments_plain no_argument f = tt
  arguments_plain (arguments {ts = ts} {us = us} {x = x} {xs = xs} i a) f =
      both_each IsPlain (expression x) (flat_map (λ y. mark k.Comma ∷ expression y) xs) (sum_plain i (front_each Fits ts us f)) (further_plain a (back_each Fits ts us f))

  further_plain : {n : ℕ} {ts : List Lexeme} {xs : List Expr} → AreFurther n ts xs → Each Fits ts → Each IsPlain (flat_map (λ y. mark k.Comma ∷ expression y) xs)
  further_plain no_further f = tt
  further_plain (further {ts = ts} {us = us} {x = x} {xs = xs} s i a) f =
      (record { fits = refl; text = refl; value = refl }, both_each IsPlain (expression x) (flat_map (λ y. mark k.Comma ∷ expression y) xs) (sum_plain i (front_each Fits ts us f.1)) (further_plain a (back_each Fits ts us f.1)))

  product_plain : {n : ℕ} {ts : List Lexeme} {x : Expr} → IsProduct n ts x → Each Fits ts → Plain x
  product_plain (product {ts = ts} {us = us} i no_factor is) f = subst Plain (sym is) (factor_plain i (front_each Fits ts us f))
  product_plain (product {ts = ts} {us = us} {x = x} {first = first} {ps = ps} i (factors {t = t} s j a) is) f =
      plain_by x _ (ap spelled is ∙ spelled_prod first ps)
      (both_each IsPlain (wrapped 0 (spelled first)) (flat_map spelled_product_part ps) (plain_wrapped 0 first (factor_plain i (front_each Fits ts us f))) (factors_plain (factors {t = t} s j a) (back_each Fits ts us f)))

  factors_plain : {n : ℕ} {us : List Lexeme} {ps : List ProdPart} → AreFactors n us ps → Each Fits us → Each IsPlain (flat_map spelled_product_part ps)
  factors_plain no_factor f = tt
  factors_plain (factors {at = at} {ts = ts} {us = us} {x = x} {ps = ps} s i a) f =
      subst (λ v. Each IsPlain (v ++ flat_map spelled_product_part ps)) (sym (spelled_prods at x))
      (record { fits = refl; text = refl; value = refl }, both_each IsPlain (wrapped 0 (spelled x)) (flat_map spelled_product_part ps) (plain_wrapped 0 x (factor_plain i (front_each Fits ts us f.1))) (factors_plain a (back_each Fits ts us f.1)))

  pub sum_plain : {n : ℕ} {ts : List Lexeme} {x : Expr} → IsSum n ts x → Each Fits ts → Plain x
  sum_plain (sum {ts = ts} {us = us} i no_product is) f = subst Plain (sym is) (product_plain i (front_each Fits ts us f))
  sum_plain (sum {ts = ts} {us = us} {x = x} {first = first} {ps = ps} i (products {t = t} s j a) is) f =
      plain_by x _ (ap spelled is ∙ spelled_sum first ps)
      (both_each IsPlain (wrapped 1 (spelled first)) (flat_map spelled_sum_part ps) (plain_wrapped 1 first (product_plain i (front_each Fits ts us f))) (products_plain (products {t = t} s j a) (back_each Fits ts us f)))

  products_plain : {n : ℕ} {us : List Lexeme} {ps : List SumPart} → AreProducts n us ps → Each Fits us → Each IsPlain (flat_map spelled_sum_part ps)
  products_plain no_product f = tt
  products_plain (products {sign = g} {ts = ts} {us = us} {x = x} {ps = ps} s i a) f =
      subst (λ v. Each IsPlain (v ++ flat_map spelled_sum_part ps)) (sym (spelled_sums g x))
      (plain_sign g.0 g.1, both_each IsPlain (wrapped 1 (spelled x)) (flat_map spelled_sum_part ps) (plain_wrapped 1 x (product_plain i (front_each Fits ts us f.1))) (products_plain a (back_each Fits ts us f.1)))
