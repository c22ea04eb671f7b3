-- Tokens that differ in their places alone spell trees that differ in their places alone.
use Rattle.std.proofs.Common.{◌≡◌, ◌∙◌, sym, ap, subst, refl, ℕ, suc, List, [], ◌∷◌, ◌++◌, Bool, Some, None, Option, map}
use Rattle.heco_lex.specs.declared.place.Place.{Place}
use Rattle.heco_lex.specs.declared.token.TokenKind.{TokenKind}
use Rattle.heco_lex.specs.declared.token.TokenKind.TheVariants as k
use Rattle.heco_syntax.specs.declared.lexeme.Lexeme.{Lexeme}
use Rattle.heco_syntax.specs.declared.tree.Ident.{Ident}
use Rattle.heco_syntax.specs.declared.tree.Num.{Num}
use Rattle.heco_syntax.specs.declared.tree.Expr.{Expr, fold-roll-Expr}
use Rattle.heco_syntax.specs.declared.tree.Expr.TheVariants as e
use Rattle.heco_syntax.specs.declared.tree.SumPart.{SumPart, fold-roll-SumPart}
use Rattle.heco_syntax.specs.declared.tree.ProdPart.{ProdPart, fold-roll-ProdPart}
use Rattle.heco_syntax.specs.declared.tree.Expr.TheOpen.{Expr-F}
use Rattle.heco_syntax.specs.Parts.{sum_of, product_of, sum_part, product_part, comma_by, sum_sign_of, with_place, product_sign_by, num_of, ident_of}
use Rattle.heco_syntax.specs.Erasure.{IsLike, Alike, alike_nil, alike, nowhere, bare, bare_ident, bare_num, bare_sum_part, bare_product_part, bare_step, bare_product_step, bare_sum_step}
use Rattle.heco_syntax.specs.Grammar.{IsFactor, AreArguments, AreFurther, IsProduct, AreFactors, IsSum, AreProducts, literal, name, item, negative, group, call, no_argument, arguments, no_further, further, product, no_factor, factors, sum, no_product, products}

bare_lit : (n : Num) → bare (e.Lit n) ≡ e.Lit (bare_num n)
bare_lit n = ap bare (sym (e.rolls-Lit n)) ∙ fold-roll-Expr Expr ProdPart SumPart bare_step bare_product_step bare_sum_step (Expr-F.Lit n)

bare_one : (id : Ident) → bare (e.One id) ≡ e.One (bare_ident id)
bare_one id = ap bare (sym (e.rolls-One id)) ∙ fold-roll-Expr Expr ProdPart SumPart bare_step bare_product_step bare_sum_step (Expr-F.One id)

bare_item : (id : Ident) (x : Expr) → bare (e.Item id x) ≡ e.Item (bare_ident id) (bare x)
bare_item id x = ap bare (sym (e.rolls-Item id x)) ∙ fold-roll-Expr Expr ProdPart SumPart bare_step bare_product_step bare_sum_step (Expr-F.Item id x)

bare_call : (id : Ident) (xs : List Expr) → bare (e.Call id xs) ≡ e.Call (bare_ident id) (map bare xs)
bare_call id xs = ap bare (sym (e.rolls-Call id xs)) ∙ fold-roll-Expr Expr ProdPart SumPart bare_step bare_product_step bare_sum_step (Expr-F.Call id xs)

bare_neg : (at : Place) (x : Expr) → bare (e.Neg at x) ≡ e.Neg nowhere (bare x)
bare_neg at x = ap bare (sym (e.rolls-Neg at x)) ∙ fold-roll-Expr Expr ProdPart SumPart bare_step bare_product_step bare_sum_step (Expr-F.Neg at x)

bare_sum : (first : Expr) (ps : List SumPart) → bare (e.Sum first ps) ≡ e.Sum (bare first) (map bare_sum_part ps)
bare_sum first ps = ap bare (sym (e.rolls-Sum first ps)) ∙ fold-roll-Expr Expr ProdPart SumPart bare_step bare_product_step bare_sum_step (Expr-F.Sum first ps)

bare_prod : (first : Expr) (ps : List ProdPart) → bare (e.Prod first ps) ≡ e.Prod (bare first) (map bare_product_part ps)
bare_prod first ps = ap bare (sym (e.rolls-Prod first ps)) ∙ fold-roll-Expr Expr ProdPart SumPart bare_step bare_product_step bare_sum_step (Expr-F.Prod first ps)

bare_sums : (s : Bool × Place) (x : Expr) → bare_sum_part (sum_part s x) ≡ sum_part (s.0, nowhere) (bare x)
bare_sums s x = fold-roll-SumPart Expr ProdPart SumPart bare_step bare_product_step bare_sum_step (record { minus = s.0; at = s.1; of = x })

bare_prods : (at : Place) (x : Expr) → bare_product_part (product_part at x) ≡ product_part nowhere (bare x)
bare_prods at x = fold-roll-ProdPart Expr ProdPart SumPart bare_step bare_product_step bare_sum_step (record { at = at; of = x })

bare_sum_of : (first : Expr) (ps : List SumPart) → bare (sum_of first ps) ≡ sum_of (bare first) (map bare_sum_part ps)
bare_sum_of first [] = refl
bare_sum_of first (p ∷ ps) = bare_sum first (p ∷ ps)

bare_product_of : (first : Expr) (ps : List ProdPart) → bare (product_of first ps) ≡ product_of (bare first) (map bare_product_part ps)
bare_product_of first [] = refl
bare_product_of first (p ∷ ps) = bare_prod first (p ∷ ps)

pub record Cut (ts vs us : List Lexeme) : Type 0 where
  pub front : List Lexeme
  pub back : List Lexeme
  pub all : us ≡ front ++ back
  pub first : Alike ts front
  pub second : Alike vs back

pub cut : (ts vs us : List Lexeme) → Alike (ts ++ vs) us → Cut ts vs us
cut [] vs us a = record { front = []; back = us; all = refl; first = alike_nil; second = a }
cut (t ∷ ts) vs us (alike {u = u} {us = ws} h a) = let c = cut ts vs ws a in record { front = u ∷ c.front; back = c.back; all = ap (λ v. u ∷ v) c.all; first = alike h c.first; second = c.second }

pub record One (t : Lexeme) (us : List Lexeme) : Type 0 where
  pub u : Lexeme
  pub all : us ≡ u ∷ []
  pub like : IsLike t u

pub one : (t : Lexeme) (us : List Lexeme) → Alike (t ∷ []) us → One t us
one t us (alike {u = u} h alike_nil) = record { u = u; all = refl; like = h }

pub record Lifted (Is : ℕ → List Lexeme → Expr → Type 0) (n : ℕ) (us : List Lexeme) (x : Expr) : Type 0 where
  pub y : Expr
  pub is : Is n us y
  pub same : bare y ≡ bare x

pub record LiftedAll {P : Type 0} (Are : ℕ → List Lexeme → List P → Type 0) (f : P → P) (n : ℕ) (us : List Lexeme) (ps : List P) : Type 0 where
  pub qs : List P
  pub are : Are n us qs
  pub same : map f qs ≡ map f ps

pub ident_like : (t u : Lexeme) → IsLike t u → bare_ident (ident_of u) ≡ bare_ident (ident_of t)
ident_like t u h = ap (λ (v : List ℕ). record { text = v; at = nowhere }) h.text

pub num_like : (t u : Lexeme) → IsLike t u → bare_num (num_of u) ≡ bare_num (num_of t)
num_like t u h = ap (λ (v : ℕ). record { value = v; at = nowhere }) h.value

star_like : (a : TokenKind) (at at2 : Place) → product_sign_by at a ≡ Some at2 → (place : Place) → product_sign_by place a ≡ Some place
star_like k.Star at at2 h place = refl
star_like a at at2 h place = cc

comma_like : (a : TokenKind) (at at2 : Place) → comma_by at a ≡ Some at2 → (place : Place) → comma_by place a ≡ Some place
comma_like k.Comma at at2 h place = refl
comma_like a at at2 h place = cc

sign_like : (a : TokenKind) (at : Place) (s : Bool × Place) → with_place at (sum_sign_of a) ≡ Some s → (place : Place) → with_place place (sum_sign_of a) ≡ Some (s.0, place)
sign_like a at s h place = by (sum_sign_of a) h
  where
    by : (o : Option Bool) → with_place at o ≡ Some s → with_place place o ≡ Some (s.0, place)
    by None g = cc
    by (Some b) g = let p : ◌≡◌ {A = Bool × Place} (b, at) s = cc in ap (λ (q : Bool × Place). Some (q.0, place)) p

mutual
  pub lift_factor : {n : ℕ} {ts : List Lexeme} {x : Expr} → IsFactor n ts x → (us : List Lexeme) → Alike ts us → Lifted IsFactor n us x
  lift_factor {n} (literal {t = t} {x = x} h is) us a =
      let o = one t us a in
      record {
        y = e.Lit (num_of o.u);
        is = subst (λ v. IsFactor n v (e.Lit (num_of o.u))) (sym o.all) (literal (o.like.kind ∙ h) refl);
        same = bare_lit (num_of o.u) ∙ ap e.Lit (num_like t o.u o.like) ∙ sym (bare_lit (num_of t)) ∙ ap bare (sym is);
      }
  lift_factor {n} (name {t = t} {x = x} h is) us a =
      let o = one t us a in
      record {
        y = e.One (ident_of o.u);
        is = subst (λ v. IsFactor n v (e.One (ident_of o.u))) (sym o.all) (name (o.like.kind ∙ h) refl);
        same = bare_one (ident_of o.u) ∙ ap e.One (ident_like t o.u o.like) ∙ sym (bare_one (ident_of t)) ∙ ap bare (sym is);
      }
  lift_factor (item {n = n} {w = w} c {ts = ts} {x = x} {i = i} h ho inner hc is) us (alike {u = w2} hw (alike {u = o2} {us = rest} ho2 a)) =
      let p = cut ts (c ∷ []) rest a in
      let o = one c p.back p.second in
      let l = lift_sum inner p.front p.first in
      record {
        y = e.Item (ident_of w2) l.y;
        is = subst (λ v. IsFactor (suc n) (w2 ∷ o2 ∷ v) (e.Item (ident_of w2) l.y)) (sym (p.all ∙ ap (λ v. p.front ++ v) o.all)) (item o.u (hw.kind ∙ h) (ho2.kind ∙ ho) l.is (o.like.kind ∙ hc) refl);
        same = bare_item (ident_of w2) l.y ∙ ap (λ v. e.Item v (bare l.y)) (ident_like w w2 hw) ∙ ap (λ v. e.Item (bare_ident (ident_of w)) v) l.same ∙ sym (bare_item (ident_of w) i) ∙ ap bare (sym is);
      }
  lift_factor (negative {n = n} {t = t} {ts = ts} {x = x} {y = z} h i is) us (alike {u = u} {us = rest} ht a) =
      let l = lift_factor i rest a in
      record { y = e.Neg u.at l.y; is = negative (ht.kind ∙ h) l.is refl; same = bare_neg u.at l.y ∙ ap (e.Neg nowhere) l.same ∙ sym (bare_neg t.at z) ∙ ap bare (sym is) }
  lift_factor (group {n = n} c {ts = ts} {x = x} ho i hc) us (alike {u = o2} {us = rest} ho2 a) =
      let p = cut ts (c ∷ []) rest a in
      let o = one c p.back p.second in
      let l = lift_sum i p.front p.first in
      record { y = l.y; is = subst (λ v. IsFactor (suc n) (o2 ∷ v) l.y) (sym (p.all ∙ ap (λ v. p.front ++ v) o.all)) (group o.u (ho2.kind ∙ ho) l.is (o.like.kind ∙ hc)); same = l.same }
  lift_factor (call {n = n} {w = w} c {ts = ts} {x = x} {args = xs} h ho inner hc is) us (alike {u = w2} hw (alike {u = o2} {us = rest} ho2 a)) =
      let p = cut ts (c ∷ []) rest a in
      let o = one c p.back p.second in
      let l = lift_arguments inner p.front p.first in
      record {
        y = e.Call (ident_of w2) l.qs;
        is = subst (λ v. IsFactor (suc n) (w2 ∷ o2 ∷ v) (e.Call (ident_of w2) l.qs)) (sym (p.all ∙ ap (λ v. p.front ++ v) o.all)) (call o.u (hw.kind ∙ h) (ho2.kind ∙ ho) l.are (o.like.kind ∙ hc) refl);
        same = bare_call (ident_of w2) l.qs ∙ ap (λ v. e.Call v (map bare l.qs)) (ident_like w w2 hw) ∙ ap (λ v. e.Call (bare_ident (ident_of w)) v) l.same ∙ sym (bare_call (ident_of w) xs) ∙ ap bare (sym is);
      }

  pub lift_arguments : {n : ℕ} {ts : List Lexeme} {xs : List Expr} → AreArguments n ts xs → (us : List Lexeme) → Alike ts us → LiftedAll AreArguments bare n us xs
  lift_arguments no_argument us alike_nil = record { qs = []; are = no_argument; same = refl }
  lift_arguments {n} (arguments {ts = ts} {us = vs} {x = x} {xs = xs} i a) us h =
      let p = cut ts vs us h in
      let l = lift_sum i p.front p.first in
      let r = lift_further a p.back p.second in
      record {
        qs = l.y ∷ r.qs;
        are = subst (λ v. AreArguments n v (l.y ∷ r.qs)) (sym p.all) (arguments l.is r.are);
        same = ap (λ v. v ∷ map bare r.qs) l.same ∙ ap (λ v. bare x ∷ v) r.same;
      }

  pub lift_further : {n : ℕ} {ts : List Lexeme} {xs : List Expr} → AreFurther n ts xs → (us : List Lexeme) → Alike ts us → LiftedAll AreFurther bare n us xs
  lift_further no_further us alike_nil = record { qs = []; are = no_further; same = refl }
  lift_further {n} (further {t = t} {at = at} {ts = ts} {us = vs} {x = x} {xs = xs} s i a) us (alike {u = u} {us = rest} ht h) =
      let p = cut ts vs rest h in
      let l = lift_sum i p.front p.first in
      let r = lift_further a p.back p.second in
      record {
        qs = l.y ∷ r.qs;
        are = subst (λ v. AreFurther n (u ∷ v) (l.y ∷ r.qs)) (sym p.all) (further {t = u} (ap (comma_by u.at) ht.kind ∙ comma_like t.kind t.at at s u.at) l.is r.are);
        same = ap (λ v. v ∷ map bare r.qs) l.same ∙ ap (λ v. bare x ∷ v) r.same;
      }

  pub lift_product : {n : ℕ} {ts : List Lexeme} {x : Expr} → IsProduct n ts x → (us : List Lexeme) → Alike ts us → Lifted IsProduct n us x
  lift_product {n} (product {ts = ts} {us = vs} {x = x} {first = first} {ps = ps} i a is) us h =
      let p = cut ts vs us h in
      let l = lift_factor i p.front p.first in
      let r = lift_factors a p.back p.second in
      record {
        y = product_of l.y r.qs;
        is = subst (λ v. IsProduct n v (product_of l.y r.qs)) (sym p.all) (product l.is r.are refl);
        same = bare_product_of l.y r.qs ∙ ap (λ v. product_of v (map bare_product_part r.qs)) l.same ∙ ap (product_of (bare first)) r.same ∙ sym (bare_product_of first ps) ∙ ap bare (sym is);
      }

  pub lift_factors : {n : ℕ} {ts : List Lexeme} {ps : List ProdPart} → AreFactors n ts ps → (us : List Lexeme) → Alike ts us → LiftedAll AreFactors bare_product_part n us ps
  lift_factors no_factor us alike_nil = record { qs = []; are = no_factor; same = refl }
  lift_factors {n} (factors {t = t} {at = at} {ts = ts} {us = vs} {x = x} {ps = ps} s i a) us (alike {u = u} {us = rest} ht h) =
      let p = cut ts vs rest h in
      let l = lift_factor i p.front p.first in
      let r = lift_factors a p.back p.second in
      record {
        qs = product_part u.at l.y ∷ r.qs;
        are = subst (λ v. AreFactors n (u ∷ v) (product_part u.at l.y ∷ r.qs)) (sym p.all) (factors {t = u} (ap (product_sign_by u.at) ht.kind ∙ star_like t.kind t.at at s u.at) l.is r.are);
        same = ap (λ v. v ∷ map bare_product_part r.qs) (bare_prods u.at l.y ∙ ap (product_part nowhere) l.same ∙ sym (bare_prods at x)) ∙ ap (λ v. bare_product_part (product_part at x) ∷ v) r.same;
      }

  pub lift_sum : {n : ℕ} {ts : List Lexeme} {x : Expr} → IsSum n ts x → (us : List Lexeme) → Alike ts us → Lifted IsSum n us x
  lift_sum {n} (sum {ts = ts} {us = vs} {x = x} {first = first} {ps = ps} i a is) us h =
      let p = cut ts vs us h in
      let l = lift_product i p.front p.first in
      let r = lift_products a p.back p.second in
      record {
        y = sum_of l.y r.qs;
        is = subst (λ v. IsSum n v (sum_of l.y r.qs)) (sym p.all) (sum l.is r.are refl);
        same = bare_sum_of l.y r.qs ∙ ap (λ v. sum_of v (map bare_sum_part r.qs)) l.same ∙ ap (sum_of (bare first)) r.same ∙ sym (bare_sum_of first ps) ∙ ap bare (sym is);
      }

  pub lift_products : {n : ℕ} {ts : List Lexeme} {ps : List SumPart} → AreProducts n ts ps → (us : List Lexeme) → Alike ts us → LiftedAll AreProducts bare_sum_part n us ps
  lift_products no_product us alike_nil = record { qs = []; are = no_product; same = refl }
  lift_products {n} (products {t = t} {sign = g} {ts = ts} {us = vs} {x = x} {ps = ps} s i a) us (alike {u = u} {us = rest} ht h) =
      let p = cut ts vs rest h in
      let l = lift_product i p.front p.first in
      let r = lift_products a p.back p.second in
      record {
        qs = sum_part (g.0, u.at) l.y ∷ r.qs;
        are = subst (λ v. AreProducts n (u ∷ v) (sum_part (g.0, u.at) l.y ∷ r.qs)) (sym p.all) (products {t = u} (ap (λ v. with_place u.at (sum_sign_of v)) ht.kind ∙ sign_like t.kind t.at g s u.at) l.is r.are);
        same = ap (λ v. v ∷ map bare_sum_part r.qs) (bare_sums (g.0, u.at) l.y ∙ ap (sum_part (g.0, nowhere)) l.same ∙ sym (bare_sums g x)) ∙ ap (λ v. bare_sum_part (sum_part g x) ∷ v) r.same;
      }
