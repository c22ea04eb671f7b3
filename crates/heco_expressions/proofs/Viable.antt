-- What the reading of expressions answers is spelled so, and what it took before it stopped can be completed.
use Rattle.std.proofs.Common.{◌≡◌, ◌∙◌, sym, ap, subst, refl, ℕ, zero, suc, List, [], ◌∷◌, ◌++◌, Bool, true, false, append-nil, length}
use Rattle.std.specs.Prelude.{if◌then◌else◌}
use Rattle.heco_lex.specs.declared.place.Place.{Place}
use Rattle.heco_lex.specs.declared.token.TokenKind.{TokenKind}
use Rattle.heco_lex.specs.declared.token.TokenKind.TheVariants as k
use Rattle.heco_syntax.specs.declared.lexeme.Lexeme.{Lexeme}
use Rattle.heco_expressions.specs.declared.cursor.Start.{Start}
use Rattle.heco_expressions.specs.declared.cursor.Start.TheVariants as starts
use Rattle.heco_syntax.specs.declared.tree.Expr.{Expr}
use Rattle.heco_syntax.specs.declared.tree.Expr.TheVariants as e
use Rattle.heco_syntax.specs.declared.tree.Ident.{Ident}
use Rattle.heco_syntax.specs.Parts.{place_of, ident_of, num_of, comma, sum_of, product_of, sum_sign, product_sign, sum_part, product_part}
use Rattle.heco_expressions.specs.Reading.{Parser, found, nested, and_then, gives, start, is_at, same_kind, expect, word, number, closed, index_of, group_of, negative_of, named_flat, named_deep, indexed_deep, called_deep, call_of, parts_from, factors_after, products_after}
use Rattle.heco_expressions.specs.Reading as read
use Rattle.heco_expressions.specs.Reading.{factor_by, start_of}
use Rattle.heco_syntax.specs.Grammar.{IsFactor, AreArguments, AreFurther, IsProduct, AreFactors, IsSum, AreProducts, literal, name, item, negative, group, call, no_argument, arguments, no_further, further, product, no_factor, factors, sum, no_product, products}
use Rattle.heco_expressions.proofs.Verdicts.{Verdict, was_found, was_syntax, was_nested, then_verdict, deeper_verdict, plain, kinds_same, IsOne, one_verdict, weak_one, IsEnd, end_verdict, Behind, parts_verdict, Filled}
use Rattle.heco_expressions.proofs.Levels.{factor_starts}
use Rattle.heco_expressions.proofs.Weaken.{weaken_factor, weaken_arguments, weaken_factors, weaken_product, weaken_products, weaken_sum}

some_literal : (n : ℕ) → IsFactor n (plain k.Number ∷ []) (e.Lit (num_of (plain k.Number)))
some_literal n = literal refl refl

pub some_sum : (n : ℕ) → IsSum n (plain k.Number ∷ []) (e.Lit (num_of (plain k.Number)))
some_sum n = sum {us = []} (product {us = []} (some_literal n) no_factor refl) no_product refl

-- further parts behind a first
record Rest {P : Type 0} (Are : ℕ → List Lexeme → List P → Type 0) (whole : List P → Expr) (n : ℕ) (us : List Lexeme) (y : Expr) : Type 0 where
  ps : List P
  are : Are n us ps
  is : y ≡ whole ps

module _ (n : ℕ) (f : Parser Expr) (each : (ts : List Lexeme) → Verdict IsFactor n ts (f ts)) where
  factors_verdict : (first : Expr) (ts : List Lexeme) → Verdict (Rest AreFactors (product_of first)) n ts (factors_after f first ts)
  factors_verdict first ts =
      let B = Behind product_sign product_part f IsFactor AreFactors (λ m pre x i. weaken_factor i) (λ m. no_factor) (λ m t s ts us x ps h i a. factors h i a) in
      then_verdict (B []) (λ ps. IsEnd (product_of first ps)) (Rest AreFactors (product_of first))
      (λ m pre us x y i b. record { ps = i.ps; are = subst (λ v. AreFactors m v i.ps) (sym (ap (λ w. pre ++ w) b.all ∙ append-nil pre)) i.are; is = b.is ∙ ap (product_of first) i.is })
      (λ m x. ([], product_of first x, record { all = refl; is = refl }))
      (λ m pre x i. record { ps = i.ps; is = i.is; are = weaken_factors i.are })
      n ts (parts_from product_sign product_part f (length ts) [] ts) (λ ps. gives (product_of first) ps)
      (parts_verdict product_sign product_part f IsFactor AreFactors (λ m pre x i. weaken_factor i) (λ m. no_factor) (λ m t s ts us x ps h i a. factors h i a) n each (length ts) [] ts)
      (λ x mid. end_verdict (product_of first) n x mid)

  product_verdict : (ts : List Lexeme) → Verdict IsProduct n ts (read.product f ts)
  unfolding read.product
  product_verdict ts = then_verdict IsFactor (λ first. Rest AreFactors (product_of first)) IsProduct
      (λ m pre us x y i b. product i b.are b.is)
      (λ m x. ([], x, record { ps = []; are = no_factor; is = refl }))
      (λ m pre x i. weaken_factor i)
      n ts (f ts) (factors_after f) (each ts) factors_verdict

  products_verdict : (first : Expr) (ts : List Lexeme) → Verdict (Rest AreProducts (sum_of first)) n ts (products_after f first ts)
  products_verdict first ts =
      let B = Behind sum_sign sum_part (read.product f) IsProduct AreProducts (λ m pre x i. weaken_product i) (λ m. no_product) (λ m t s ts us x ps h i a. products h i a) in
      then_verdict (B []) (λ ps. IsEnd (sum_of first ps)) (Rest AreProducts (sum_of first))
      (λ m pre us x y i b. record { ps = i.ps; are = subst (λ v. AreProducts m v i.ps) (sym (ap (λ w. pre ++ w) b.all ∙ append-nil pre)) i.are; is = b.is ∙ ap (sum_of first) i.is })
      (λ m x. ([], sum_of first x, record { all = refl; is = refl }))
      (λ m pre x i. record { ps = i.ps; is = i.is; are = weaken_products i.are })
      n ts (parts_from sum_sign sum_part (read.product f) (length ts) [] ts) (λ ps. gives (sum_of first) ps)
      (parts_verdict sum_sign sum_part (read.product f) IsProduct AreProducts (λ m pre x i. weaken_product i) (λ m. no_product) (λ m t s ts us x ps h i a. products h i a) n product_verdict (length ts) [] ts)
      (λ x mid. end_verdict (sum_of first) n x mid)

  pub sum_verdict : (ts : List Lexeme) → Verdict IsSum n ts (read.sum f ts)
  unfolding read.sum
  sum_verdict ts = then_verdict IsProduct (λ first. Rest AreProducts (sum_of first)) IsSum
      (λ m pre us x y i b. sum i b.are b.is)
      (λ m x. ([], x, record { ps = []; are = no_product; is = refl }))
      (λ m pre x i. weaken_product i)
      n ts (read.product f ts) (products_after f) (product_verdict ts) products_verdict

-- one token of the kind, and then this value
record IsClose (kind : TokenKind) (y : Expr) (n : ℕ) (us : List Lexeme) (z : Expr) : Type 0 where
  c : Lexeme
  all : us ≡ c ∷ []
  closes : c.kind ≡ kind
  is : z ≡ y

close_verdict : {A : Type 0} (kind : TokenKind) (g : A → Expr) (x : A) (n : ℕ) (ts : List Lexeme) → Verdict (IsClose kind (g x)) n ts (closed kind g x ts)
close_verdict kind g x n ts = then_verdict (IsOne place_of kind) (λ at. IsEnd (g x)) (IsClose kind (g x))
    (λ m pre us y z i b. record { c = i.t; all = ap (λ w. pre ++ w) b.all ∙ append-nil pre ∙ i.all; closes = i.is; is = b.is })
    (λ m y. ([], g x, record { all = refl; is = refl }))
    (weak_one place_of kind) n ts (expect kind ts) (λ at. gives (λ a. g x) at) (one_verdict place_of kind n ts) (λ y mid. end_verdict (λ a. g x) n y mid)

-- what is spelled inside, and a token of the kind behind it
record Within {A : Type 0} (Inner : ℕ → List Lexeme → A → Type 0) (kind : TokenKind) (g : A → Expr) (n : ℕ) (us : List Lexeme) (z : Expr) : Type 0 where
  ts : List Lexeme
  c : Lexeme
  x : A
  all : us ≡ ts ++ c ∷ []
  inner : Inner n ts x
  closes : c.kind ≡ kind
  is : z ≡ g x

module _ {A : Type 0} (Inner : ℕ → List Lexeme → A → Type 0) (weak : (n : ℕ) (pre : List Lexeme) (x : A) → Inner n pre x → Inner (suc n) pre x) (kind : TokenKind) (g : A → Expr) where
  within_verdict : (n : ℕ) (p : Parser A) (ts : List Lexeme) → Verdict Inner n ts (p ts) → Verdict (Within Inner kind g) n ts (and_then (p ts) (closed kind g))
  within_verdict n p ts v = then_verdict Inner (λ x. IsClose kind (g x)) (Within Inner kind g)
      (λ m pre us x y i b. record { ts = pre; c = b.c; x = x; all = ap (λ w. pre ++ w) b.all; inner = i; closes = b.closes; is = b.is })
      (λ m x. (plain kind ∷ [], g x, record { c = plain kind; all = refl; closes = refl; is = refl }))
      weak n ts (p ts) (closed kind g) v (λ x mid. close_verdict kind g x n mid)

-- what stands behind a name, with whatever token spells the name
record Named (id : Ident) (n : ℕ) (us : List Lexeme) (z : Expr) : Type 0 where
  whole : (w : Lexeme) → w.kind ≡ k.Word → ident_of w ≡ id → IsFactor n (w ∷ us) z

record Negated (at : Place) (n : ℕ) (us : List Lexeme) (z : Expr) : Type 0 where
  y : Expr
  inner : IsFactor n us y
  is : z ≡ e.Neg at y

some_expr : Expr
some_expr = e.Lit (num_of (plain k.Number))

alone : (n : ℕ) (id : Ident) → Named id n [] (e.One id)
alone n id = record { whole = λ w h i. name h (ap e.One (sym i)) }

indexed : (n : ℕ) (id : Ident) (o c : Lexeme) (ts : List Lexeme) (x z : Expr) → o.kind ≡ k.OpenBracket → c.kind ≡ k.CloseBracket → IsSum n ts x → z ≡ e.Item id x → Named id (suc n) (o ∷ (ts ++ c ∷ [])) z
indexed n id o c ts x z ho hc i e' = record { whole = λ w h f. item c h ho i hc (e' ∙ ap (λ v. e.Item v x) (sym f)) }

called : (n : ℕ) (id : Ident) (o c : Lexeme) (ts : List Lexeme) (xs : List Expr) (z : Expr) → o.kind ≡ k.Open → c.kind ≡ k.Close → AreArguments n ts xs → z ≡ e.Call id xs → Named id (suc n) (o ∷ (ts ++ c ∷ [])) z
called n id o c ts xs z ho hc i e' = record { whole = λ w h f. call c h ho i hc (e' ∙ ap (λ v. e.Call v xs) (sym f)) }

minus_is : (a : TokenKind) → start_of a ≡ starts.Minus → a ≡ k.Minus
minus_is k.Minus h = refl
minus_is a h = cc

open_is : (a : TokenKind) → start_of a ≡ starts.Open → a ≡ k.Open
open_is k.Open h = refl
open_is a h = cc

flat_verdict : (id : Ident) (ts : List Lexeme) → Verdict (Named id) 0 ts (named_flat id ts)
unfolding some_expr
flat_verdict id [] = was_found [] [] (e.One id) refl (alone 0 id)
flat_verdict id (o ∷ us) = by (same_kind o.kind k.OpenBracket) (same_kind o.kind k.Open) refl refl
  where
    by : (b c : Bool) → same_kind o.kind k.OpenBracket ≡ b → same_kind o.kind k.Open ≡ c
        → Verdict (Named id) 0 (o ∷ us) (if b then nested (o ∷ us) else if c then nested (o ∷ us) else found (e.One id) (o ∷ us))
    by true c h g = was_nested [] o us [] (plain k.Number ∷ plain k.CloseBracket ∷ []) (e.One id) (e.Item id some_expr) refl (alone 0 id)
        (indexed 0 id o (plain k.CloseBracket) (plain k.Number ∷ []) some_expr (e.Item id some_expr) (kinds_same o.kind k.OpenBracket h) refl (some_sum 0) refl)
    by false true h g = was_nested [] o us [] (plain k.Close ∷ []) (e.One id) (e.Call id []) refl (alone 0 id)
        (called 0 id o (plain k.Close) [] [] (e.Call id []) (kinds_same o.kind k.Open g) refl no_argument refl)
    by false false h g = was_found [] (o ∷ us) (e.One id) refl (alone 0 id)

module _ (n : ℕ) (f : Parser Expr) (each : (ts : List Lexeme) → Verdict IsFactor n ts (f ts)) where
  sum_within : (kind : TokenKind) (g : Expr → Expr) (ts : List Lexeme) → Verdict (Within IsSum kind g) n ts (and_then (read.sum f ts) (closed kind g))
  sum_within kind g ts = within_verdict IsSum (λ m pre x i. weaken_sum i) kind g n (read.sum f) ts (sum_verdict n f each ts)

  some_within : (kind : TokenKind) (g : Expr → Expr) (m : ℕ) → Filled (Within IsSum kind g) m
  unfolding some_expr
  some_within kind g m = (plain k.Number ∷ plain kind ∷ [], g some_expr, record { ts = plain k.Number ∷ []; c = plain kind; x = some_expr; all = refl; inner = some_sum m; closes = refl; is = refl })

  -- further arguments behind a first
  abbrev Further : Expr → ℕ → List Lexeme → List Expr → Type 0
  Further first = Behind comma (λ at x. x) (read.sum f) IsSum AreFurther (λ m pre x i. weaken_sum i) (λ m. no_further) (λ m t s ts us x ps h i a. further h i a) (first ∷ [])

  arguments_verdict : (ts : List Lexeme) → Verdict AreArguments n ts (read.arguments f ts)
  unfolding read.arguments
  arguments_verdict ts = by (is_at k.Close ts)
    where
      by : (b : Bool) → Verdict AreArguments n ts (if b then found [] ts else and_then (read.sum f ts) (read.further f))
      by true = was_found [] ts [] refl no_argument
      by false = then_verdict IsSum Further AreArguments
          (λ m pre us x y i b. subst (λ v. AreArguments m (pre ++ us) v) (sym b.is) (arguments i b.are))
          (λ m x. ([], x ∷ [], record { ps = []; are = no_further; is = refl }))
          (λ m pre x i. weaken_sum i) n ts (read.sum f ts) (read.further f) (sum_verdict n f each ts)
          (λ x mid. parts_verdict comma (λ at x. x) (read.sum f) IsSum AreFurther (λ m pre x i. weaken_sum i) (λ m. no_further) (λ m t s ts us x ps h i a. further h i a) n (sum_verdict n f each) (length mid) (x ∷ []) mid)

  call_verdict : (id : Ident) (ts : List Lexeme) → Verdict (Named id) (suc n) ts (called_deep f id ts)
  call_verdict id ts = deeper_verdict (λ m us z. Named id (suc m) us z) (Named id) (λ m us z i. i) n ts (called_deep f id ts)
      (then_verdict (IsOne place_of k.Open) (λ at. Within AreArguments k.Close (e.Call id)) (λ m us z. Named id (suc m) us z)
      (λ m pre us x y i b. subst (λ v. Named id (suc m) v y) (sym (ap (λ w. w ++ us) i.all ∙ ap (λ w. i.t ∷ w) b.all)) (called m id i.t b.c b.ts b.x y i.is b.closes b.inner b.is))
      (λ m x. (plain k.Close ∷ [], e.Call id [], record { ts = []; c = plain k.Close; x = []; all = refl; inner = no_argument; closes = refl; is = refl }))
      (weak_one place_of k.Open) n ts (expect k.Open ts) (λ at. call_of f id) (one_verdict place_of k.Open n ts)
      (λ x mid. within_verdict AreArguments (λ m pre xs i. weaken_arguments i) k.Close (e.Call id) n (read.arguments f) mid (arguments_verdict mid)))

  index_verdict : (id : Ident) (ts : List Lexeme) → Verdict (Named id) (suc n) ts (indexed_deep f id ts)
  index_verdict id ts = deeper_verdict (λ m us z. Named id (suc m) us z) (Named id) (λ m us z i. i) n ts (indexed_deep f id ts)
      (then_verdict (IsOne place_of k.OpenBracket) (λ at. Within IsSum k.CloseBracket (e.Item id)) (λ m us z. Named id (suc m) us z)
      (λ m pre us x y i b. subst (λ v. Named id (suc m) v y) (sym (ap (λ w. w ++ us) i.all ∙ ap (λ w. i.t ∷ w) b.all)) (indexed m id i.t b.c b.ts b.x y i.is b.closes b.inner b.is))
      (λ m x. some_within k.CloseBracket (e.Item id) m)
      (weak_one place_of k.OpenBracket) n ts (expect k.OpenBracket ts) (λ at. index_of f id) (one_verdict place_of k.OpenBracket n ts) (λ x mid. sum_within k.CloseBracket (e.Item id) mid))

  deep_verdict : (id : Ident) (ts : List Lexeme) → Verdict (Named id) (suc n) ts (named_deep f id ts)
  deep_verdict id ts = by (is_at k.OpenBracket ts) (is_at k.Open ts)
    where
      by : (b c : Bool) → Verdict (Named id) (suc n) ts (if b then indexed_deep f id ts else if c then called_deep f id ts else found (e.One id) ts)
      by true c = index_verdict id ts
      by false true = call_verdict id ts
      by false false = was_found [] ts (e.One id) refl (alone (suc n) id)

  group_verdict : (ts : List Lexeme) → Verdict IsFactor (suc n) ts (and_then (expect k.Open ts) (λ at. group_of f))
  group_verdict ts = deeper_verdict (λ m us z. IsFactor (suc m) us z) IsFactor (λ m us z i. i) n ts (and_then (expect k.Open ts) (λ at. group_of f))
      (then_verdict (IsOne place_of k.Open) (λ at. Within IsSum k.Close (λ x. x)) (λ m us z. IsFactor (suc m) us z)
      (λ m pre us x y i b. subst (λ v. IsFactor (suc m) v y) (sym (ap (λ w. w ++ us) i.all ∙ ap (λ w. i.t ∷ w) b.all)) (group b.c i.is (subst (λ v. IsSum m b.ts v) (sym b.is) b.inner) b.closes))
      (λ m x. some_within k.Close (λ x. x) m)
      (weak_one place_of k.Open) n ts (expect k.Open ts) (λ at. group_of f) (one_verdict place_of k.Open n ts) (λ x mid. sum_within k.Close (λ x. x) mid))

  negative_verdict : (ts : List Lexeme) → Verdict IsFactor (suc n) ts (and_then (expect k.Minus ts) (negative_of f))
  unfolding some_expr
  negative_verdict ts = deeper_verdict (λ m us z. IsFactor (suc m) us z) IsFactor (λ m us z i. i) n ts (and_then (expect k.Minus ts) (negative_of f))
      (then_verdict (IsOne place_of k.Minus) Negated (λ m us z. IsFactor (suc m) us z)
      (λ m pre us x y i b. subst (λ v. IsFactor (suc m) v y) (sym (ap (λ w. w ++ us) i.all)) (negative i.is b.inner (b.is ∙ ap (λ v. e.Neg v b.y) i.kept)))
      (λ m x. (plain k.Number ∷ [], e.Neg x some_expr, record { y = some_expr; inner = some_literal m; is = refl }))
      (weak_one place_of k.Minus) n ts (expect k.Minus ts) (negative_of f) (one_verdict place_of k.Minus n ts)
      (λ x mid. then_verdict IsFactor (λ y. IsEnd (e.Neg x y)) (Negated x)
      (λ m pre us y z i b. record { y = y; inner = subst (λ v. IsFactor m v y) (sym (ap (λ w. pre ++ w) b.all ∙ append-nil pre)) i; is = b.is })
      (λ m y. ([], e.Neg x y, record { all = refl; is = refl }))
      (λ m pre y i. weaken_factor i) n mid (f mid) (λ y. gives (e.Neg x) y) (each mid) (λ y rest. end_verdict (e.Neg x) n y rest)))

number_verdict : (n : ℕ) (ts : List Lexeme) → Verdict IsFactor n ts (and_then (number ts) (gives e.Lit))
number_verdict n ts = then_verdict (IsOne num_of k.Number) (λ v. IsEnd (e.Lit v)) IsFactor
    (λ m pre us x y i b. subst (λ v. IsFactor m v y) (sym (ap (λ w. pre ++ w) b.all ∙ append-nil pre ∙ i.all)) (literal i.is (b.is ∙ ap e.Lit i.kept)))
    (λ m x. ([], e.Lit x, record { all = refl; is = refl }))
    (weak_one num_of k.Number) n ts (number ts) (λ v. gives e.Lit v) (one_verdict num_of k.Number n ts) (λ x mid. end_verdict e.Lit n x mid)

word_verdict : (n : ℕ) (f : Ident → Parser Expr) → ((id : Ident) (ts : List Lexeme) → Verdict (Named id) n ts (f id ts)) → (ts : List Lexeme) → Verdict IsFactor n ts (and_then (word ts) f)
word_verdict n f each ts = then_verdict (IsOne ident_of k.Word) Named IsFactor
    (λ m pre us x y i b. subst (λ v. IsFactor m v y) (sym (ap (λ w. w ++ us) i.all)) (b.whole i.t i.is (sym i.kept)))
    (λ m x. ([], e.One x, alone m x))
    (weak_one ident_of k.Word) n ts (word ts) f (one_verdict ident_of k.Word n ts) each

flat_start : (ts : List Lexeme) → Verdict IsFactor 0 ts (factor_by 0 (start ts) ts)
unfolding some_expr
flat_start [] = was_syntax [] [] (plain k.Number ∷ []) some_expr refl (some_literal 0)
flat_start (t ∷ us) = by (start_of t.kind) refl
  where
    by : (s : Start) → start_of t.kind ≡ s → Verdict IsFactor 0 (t ∷ us) (factor_by 0 s (t ∷ us))
    by starts.Number h = number_verdict 0 (t ∷ us)
    by starts.Word h = word_verdict 0 named_flat flat_verdict (t ∷ us)
    by starts.Minus h = was_nested [] t us (plain k.Number ∷ []) (plain k.Number ∷ []) some_expr (e.Neg t.at some_expr) refl (some_literal 0) (negative (minus_is t.kind h) (some_literal 0) refl)
    by starts.Open h = was_nested [] t us (plain k.Number ∷ []) (plain k.Number ∷ plain k.Close ∷ []) some_expr some_expr refl (some_literal 0) (group (plain k.Close) (open_is t.kind h) (some_sum 0) refl)
    by starts.Other h = was_syntax [] (t ∷ us) (plain k.Number ∷ []) some_expr refl (some_literal 0)

deep_start : (n : ℕ) → ((ts : List Lexeme) → Verdict IsFactor n ts (read.factor n ts)) → (ts : List Lexeme) → Verdict IsFactor (suc n) ts (factor_by (suc n) (start ts) ts)
unfolding some_expr
deep_start n each [] = was_syntax [] [] (plain k.Number ∷ []) some_expr refl (some_literal (suc n))
deep_start n each (t ∷ us) = by (start_of t.kind)
  where
    by : (s : Start) → Verdict IsFactor (suc n) (t ∷ us) (factor_by (suc n) s (t ∷ us))
    by starts.Number = number_verdict (suc n) (t ∷ us)
    by starts.Word = word_verdict (suc n) (named_deep (read.factor n)) (deep_verdict n (read.factor n) each) (t ∷ us)
    by starts.Minus = negative_verdict n (read.factor n) each (t ∷ us)
    by starts.Open = group_verdict n (read.factor n) each (t ∷ us)
    by starts.Other = was_syntax [] (t ∷ us) (plain k.Number ∷ []) some_expr refl (some_literal (suc n))

pub factor_verdict : (n : ℕ) (ts : List Lexeme) → Verdict IsFactor n ts (read.factor n ts)
factor_verdict zero ts = subst (λ o. Verdict IsFactor 0 ts o) (sym (factor_starts 0 ts)) (flat_start ts)
factor_verdict (suc n) ts = subst (λ o. Verdict IsFactor (suc n) ts o) (sym (factor_starts (suc n) ts)) (deep_start n (factor_verdict n) ts)
