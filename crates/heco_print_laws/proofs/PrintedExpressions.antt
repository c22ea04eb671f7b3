-- What a tree is printed as spells that tree, with no more levels than it was read with.
use Rattle.std.proofs.Common.{◌≡◌, ◌∙◌, sym, ap, subst, refl, ℕ, suc, ◌<◌, ◌≤◌, List, [], ◌∷◌, ◌++◌, Bool, true, false, Some, append-nil, arith}
use Rattle.std.specs.List.{flat_map}
use Rattle.std.specs.Prelude.{if◌then◌else◌, nat_lt}
use Rattle.std.proofs.lemmas.Bool.Decides.{nat_tests}
use Rattle.heco_lex.specs.declared.place.Place.{Place}
use Rattle.heco_lex.specs.declared.token.TokenKind.TheVariants as k
use Rattle.heco_syntax.specs.declared.lexeme.Lexeme.{Lexeme}
use Rattle.heco_syntax.specs.declared.tree.Expr.{Expr}
use Rattle.heco_syntax.specs.declared.tree.SumPart.{SumPart}
use Rattle.heco_syntax.specs.declared.tree.ProdPart.{ProdPart}
use Rattle.heco_syntax.specs.Parts.{sum_part, product_part, sum_sign, num_of, ident_of}
use Rattle.heco_syntax.specs.Grammar.{IsFactor, AreArguments, AreFurther, IsProduct, AreFactors, IsSum, AreProducts, literal, name, item, negative, group, call, no_argument, arguments, no_further, further, product, no_factor, factors, sum, no_product, products}
use Rattle.heco_print.specs.Spelling.{Spelled, spelled, expression, separated, parens, spelled_sum_part, spelled_product_part, wrapped, mark, mark_at, word_of, digits_of}
use Rattle.heco_expressions.proofs.Weaken.{weaken_factor, weaken_product, weaken_sum}
use Rattle.heco_print.proofs.Prints.{spelled_lit, spelled_one, spelled_item, spelled_call, spelled_neg, spelled_sum, spelled_prod, spelled_sums, spelled_prods}

one_product : (n : ℕ) (ts : List Lexeme) (x : Expr) → IsFactor n ts x → IsProduct n ts x
one_product n ts x i = subst (λ v. IsProduct n v x) (append-nil ts) (product i no_factor refl)

one_sum : (n : ℕ) (ts : List Lexeme) (x : Expr) → IsProduct n ts x → IsSum n ts x
one_sum n ts x i = subst (λ v. IsSum n v x) (append-nil ts) (sum i no_product refl)

pub record Prints (n : ℕ) (x : Expr) : Type 0 where
  pub is_sum : IsSum n (spelled x).tokens x
  pub is_product : (spelled x).rank ≤ 1 → IsProduct n (spelled x).tokens x
  pub is_factor : (spelled x).rank ≤ 0 → IsFactor n (spelled x).tokens x

deeper : (n : ℕ) (x : Expr) → Prints n x → Prints (suc n) x
deeper n x p = record { is_sum = weaken_sum p.is_sum; is_product = λ h. weaken_product (p.is_product h); is_factor = λ h. weaken_factor (p.is_factor h) }

atom : (n : ℕ) (x : Expr) (ts : List Lexeme) → spelled x ≡ record { rank = 0; tokens = ts } → IsFactor n ts x → Prints n x × IsFactor n (wrapped 0 (spelled x)) x
atom n x ts h i = (
  record {
    is_sum = subst (λ (s : Spelled). IsSum n s.tokens x) (sym h) (one_sum n ts x (one_product n ts x i));
    is_product = λ le. subst (λ (s : Spelled). IsProduct n s.tokens x) (sym h) (one_product n ts x i);
    is_factor = λ le. subst (λ (s : Spelled). IsFactor n s.tokens x) (sym h) i;
  },
  subst (λ (s : Spelled). IsFactor n (wrapped 0 s) x) (sym h) i,
)

at_most : (a b : ℕ) → nat_lt a b ≡ false → b ≤ a
at_most a b h = grind (arith, nat_tests)

above : (a b : ℕ) → nat_lt a b ≡ true → a < b
above a b h = grind (arith, nat_tests)

test_true : (a b : ℕ) → a < b → nat_lt a b ≡ true
test_true a b h = grind (arith, nat_tests)

grouped : (n : ℕ) (x : Expr) → Prints n x → IsFactor (suc n) (wrapped 0 (spelled x)) x
grouped n x p = by (nat_lt 0 (spelled x).rank) refl
  where
    by : (b : Bool) → nat_lt 0 (spelled x).rank ≡ b → IsFactor (suc n) (if b then mark k.Open ∷ ((spelled x).tokens ++ mark k.Close ∷ []) else (spelled x).tokens) x
    by true h = group (mark k.Close) refl p.is_sum refl
    by false h = weaken_factor (p.is_factor (at_most 0 (spelled x).rank h))

product_wrapped : (n : ℕ) (x : Expr) → Prints n x → IsFactor n (wrapped 0 (spelled x)) x → IsProduct n (wrapped 1 (spelled x)) x
product_wrapped n x p i = by (nat_lt 1 (spelled x).rank) refl
  where
    by : (b : Bool) → nat_lt 1 (spelled x).rank ≡ b → IsProduct n (if b then mark k.Open ∷ ((spelled x).tokens ++ mark k.Close ∷ []) else (spelled x).tokens) x
    by true h =
        let lt : 1 < (spelled x).rank = above 1 (spelled x).rank h in
        let t : nat_lt 0 (spelled x).rank ≡ true = test_true 0 (spelled x).rank (omega arith) in
        one_product n _ x (subst (λ (b : Bool). IsFactor n (if b then mark k.Open ∷ ((spelled x).tokens ++ mark k.Close ∷ []) else (spelled x).tokens) x) t i)
    by false h = p.is_product (at_most 1 (spelled x).rank h)

sign_token : (b : Bool) (at : Place) → sum_sign (mark_at (if b then k.Minus else k.Plus) at) ≡ Some (b, at)
sign_token true at = refl
sign_token false at = refl

mutual
  pub prints_factor : {n : ℕ} {ts : List Lexeme} {x : Expr} → IsFactor n ts x → Prints n x × IsFactor n (wrapped 0 (spelled x)) x
  prints_factor {n} (literal {t = t} {x = x} h is) = atom n x (digits_of (num_of t) ∷ []) (ap spelled is ∙ spelled_lit (num_of t)) (literal refl is)
  prints_factor {n} (name {t = t} {x = x} h is) = atom n x (word_of (ident_of t) ∷ []) (ap spelled is ∙ spelled_one (ident_of t)) (name refl is)
  prints_factor (item {n = n} {w = w} c {x = x} {i = y} h ho i hc is) =
      atom (suc n) x (word_of (ident_of w) ∷ mark k.OpenBracket ∷ ((spelled y).tokens ++ mark k.CloseBracket ∷ [])) (ap spelled is ∙ spelled_item (ident_of w) y)
      (item (mark k.CloseBracket) refl refl (prints_sum i).is_sum refl is)
  prints_factor (negative {n = n} {t = t} {x = x} {y = y} h i is) =
      atom (suc n) x (mark_at k.Minus t.at ∷ wrapped 0 (spelled y)) (ap spelled is ∙ spelled_neg t.at y) (negative refl (prints_factor i).1 is)
  prints_factor (group {n = n} c {x = x} ho i hc) = let p = prints_sum i in (deeper n x p, grouped n x p)
  prints_factor (call {n = n} {w = w} c {x = x} {args = xs} h ho i hc is) =
      atom (suc n) x (word_of (ident_of w) ∷ parens (separated expression xs)) (ap spelled is ∙ spelled_call (ident_of w) xs) (call (mark k.Close) refl refl (prints_arguments i) refl is)

  prints_arguments : {n : ℕ} {ts : List Lexeme} {xs : List Expr} → AreArguments n ts xs → AreArguments n (separated expression xs) xs
  prints_arguments no_argument = no_argument
  prints_arguments (arguments i a) = arguments (prints_sum i).is_sum (prints_further a)

  prints_further : {n : ℕ} {ts : List Lexeme} {xs : List Expr} → AreFurther n ts xs → AreFurther n (flat_map (λ y. mark k.Comma ∷ expression y) xs) xs
  prints_further no_further = no_further
  prints_further (further s i a) = further {t = mark k.Comma} refl (prints_sum i).is_sum (prints_further a)

  pub prints_product : {n : ℕ} {ts : List Lexeme} {x : Expr} → IsProduct n ts x → Prints n x × IsProduct n (wrapped 1 (spelled x)) x
  prints_product {n} (product {x = x} {first = first} i no_factor is) =
      let p = prints_factor i in
      subst (λ v. Prints n v × IsProduct n (wrapped 1 (spelled v)) v) (sym is) (p.0, product_wrapped n first p.0 p.1)
  prints_product {n} (product {x = x} {first = first} {ps = ps} i (factors {t = t} s j a) is) =
      let h : spelled x ≡ record { rank = 1; tokens = wrapped 0 (spelled first) ++ flat_map spelled_product_part ps } = ap spelled is ∙ spelled_prod first ps in
      let d : IsProduct n (wrapped 0 (spelled first) ++ flat_map spelled_product_part ps) x = product (prints_factor i).1 (prints_factors (factors {t = t} s j a)) is in (
        record {
          is_sum = subst (λ (s : Spelled). IsSum n s.tokens x) (sym h) (one_sum n _ x d);
          is_product = λ le. subst (λ (s : Spelled). IsProduct n s.tokens x) (sym h) d;
          is_factor = λ le. absurd (let r : (spelled x).rank ≡ 1 = ap (λ (s : Spelled). s.rank) h in omega arith);
        },
        subst (λ (s : Spelled). IsProduct n (wrapped 1 s) x) (sym h) d,
      )

  prints_factors : {n : ℕ} {us : List Lexeme} {ps : List ProdPart} → AreFactors n us ps → AreFactors n (flat_map spelled_product_part ps) ps
  prints_factors no_factor = no_factor
  prints_factors {n} (factors {at = at} {x = x} {ps = ps} s i a) =
      subst (λ v. AreFactors n (v ++ flat_map spelled_product_part ps) (product_part at x ∷ ps)) (sym (spelled_prods at x)) (factors refl (prints_factor i).1 (prints_factors a))

  pub prints_sum : {n : ℕ} {ts : List Lexeme} {x : Expr} → IsSum n ts x → Prints n x
  prints_sum {n} (sum {x = x} {first = first} i no_product is) = subst (λ v. Prints n v) (sym is) (prints_product i).0
  prints_sum {n} (sum {x = x} {first = first} {ps = ps} i (products {t = t} s j a) is) =
      let h : spelled x ≡ record { rank = 2; tokens = wrapped 1 (spelled first) ++ flat_map spelled_sum_part ps } = ap spelled is ∙ spelled_sum first ps in
      let d : IsSum n (wrapped 1 (spelled first) ++ flat_map spelled_sum_part ps) x = sum (prints_product i).1 (prints_products (products {t = t} s j a)) is in
      record {
        is_sum = subst (λ (s : Spelled). IsSum n s.tokens x) (sym h) d;
        is_product = λ le. absurd (let r : (spelled x).rank ≡ 2 = ap (λ (s : Spelled). s.rank) h in omega arith);
        is_factor = λ le. absurd (let r : (spelled x).rank ≡ 2 = ap (λ (s : Spelled). s.rank) h in omega arith);
      }

  prints_products : {n : ℕ} {us : List Lexeme} {ps : List SumPart} → AreProducts n us ps → AreProducts n (flat_map spelled_sum_part ps) ps
  prints_products no_product = no_product
  prints_products {n} (products {sign = g} {x = x} {ps = ps} s i a) =
      subst (λ v. AreProducts n (v ++ flat_map spelled_sum_part ps) (sum_part g x ∷ ps)) (sym (spelled_sums g x)) (products (sign_token g.0 g.1) (prints_product i).1 (prints_products a))

-- what the tree spells is that tree again, with as many levels
pub printed : (n : ℕ) (ts : List Lexeme) (x : Expr) → IsSum n ts x → IsSum n (spelled x).tokens x
printed n ts x i = (prints_sum i).is_sum
