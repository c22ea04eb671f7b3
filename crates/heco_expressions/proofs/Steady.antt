-- Reading that stops at or before a token does not depend on what follows that token.
use Rattle.std.proofs.Common.{◌≡◌, subst, refl, ℕ, zero, suc, ◌≤◌, List, [], ◌∷◌, ◌++◌, Bool, true, false, Some, None, Option, length, arith}
use Rattle.std.specs.Prelude.{if◌then◌else◌}
use Rattle.heco_lex.specs.declared.token.TokenKind.{TokenKind}
use Rattle.heco_lex.specs.declared.token.TokenKind.TheVariants as k
use Rattle.heco_syntax.specs.declared.lexeme.Lexeme.{Lexeme}
use Rattle.heco_expressions.specs.declared.cursor.Start.{Start}
use Rattle.heco_expressions.specs.declared.cursor.Start.TheVariants as starts
use Rattle.heco_syntax.specs.declared.tree.Expr.{Expr}
use Rattle.heco_syntax.specs.declared.tree.Ident.{Ident}
use Rattle.heco_syntax.specs.declared.tree.Expr.TheVariants as e
use Rattle.heco_syntax.specs.Parts.{place_of, ident_of, num_of, comma, sum_of, product_of, sum_sign, product_sign, sum_part, product_part}
use Rattle.heco_expressions.specs.Reading.{Outcome, Parser, found, syntax, nested, and_then, gives, take_one, start, is_at, same_kind, expect, word, number, closed, index_of, call_of, indexed_deep, called_deep, group_of, negative_of, named_flat, named_deep, factor_flat, factor_deep, behind, parts_from, parts_by, factors_after, products_after}
use Rattle.heco_expressions.specs.Reading as read

abbrev pub left : {A : Type 0} → Outcome A → List Lexeme
left (found x ts) = ts
left (syntax ts) = ts
left (nested ts) = ts

-- the same tokens up to t and with it; then us, and vs
pub data Agree (t : Lexeme) (us vs : List Lexeme) : List Lexeme → List Lexeme → Type 0 where
  here : Agree t us vs (t ∷ us) (t ∷ vs)
  there : {c : Lexeme} {a b : List Lexeme} → Agree t us vs a b → Agree t us vs (c ∷ a) (c ∷ b)

-- the same outcome, or the first went past t
pub data Follows {A : Type 0} (t : Lexeme) (us vs : List Lexeme) : Outcome A → Outcome A → Type 0 where
  both_found : {x : A} {a b : List Lexeme} → Agree t us vs a b → Follows t us vs (found x a) (found x b)
  both_syntax : {a b : List Lexeme} → Agree t us vs a b → Follows t us vs (syntax a) (syntax b)
  both_nested : {a b : List Lexeme} → Agree t us vs a b → Follows t us vs (nested a) (nested b)
  past : {o p : Outcome A} → length (left o) ≤ length us → Follows t us vs o p

pub record Steady {A : Type 0} (p : Parser A) : Type 0 where
  pub short : (ts : List Lexeme) → length (left (p ts)) ≤ length ts
  pub local : (t : Lexeme) (us vs a b : List Lexeme) → Agree t us vs a b → Follows t us vs (p a) (p b)

then_short : {A B : Type 0} (o : Outcome A) (f : A → Parser B) → ((x : A) (ts : List Lexeme) → length (left (f x ts)) ≤ length ts) → length (left (and_then o f)) ≤ length (left o)
then_short (found x ts) f h = h x ts
then_short (syntax ts) f h = omega arith
then_short (nested ts) f h = omega arith

then_local : {A B : Type 0} (t : Lexeme) (us vs : List Lexeme) (o p : Outcome A) (f g : A → Parser B) → Follows t us vs o p → ((x : A) (ts : List Lexeme) → length (left (f x ts)) ≤ length ts)
    → ((x : A) (a b : List Lexeme) → o ≡ found x a → p ≡ found x b → Agree t us vs a b → Follows t us vs (f x a) (g x b)) → Follows t us vs (and_then o f) (and_then p g)
then_local t us vs (found x a) (found y b) f g (both_found h) s l = l x a b refl refl h
then_local t us vs (syntax a) (syntax b) f g (both_syntax h) s l = both_syntax h
then_local t us vs (nested a) (nested b) f g (both_nested h) s l = both_nested h
then_local t us vs o p f g (past h) s l = past (omega (arith, then_short o f s))

pub then_steady : {A B : Type 0} (p : Parser A) (f : A → Parser B) → Steady p → ((x : A) → Steady (f x)) → Steady (λ ts. and_then (p ts) f)
then_steady p f s g = record {
  short = λ ts. omega (arith, then_short (p ts) f (λ x. (g x).short), s.short ts);
  local = λ t us vs a b h. then_local t us vs (p a) (p b) f f (s.local t us vs a b h) (λ x. (g x).short) (λ x c d e1 e2 i. (g x).local t us vs c d i);
}

pub gives_steady : {A B : Type 0} (f : A → B) (x : A) → Steady (gives f x)
gives_steady f x = record { short = λ ts. omega arith; local = λ t us vs a b h. both_found h }

pub syntax_steady : {A : Type 0} → Steady {A = A} (λ ts. syntax ts)
syntax_steady {A} = record { short = λ ts. omega arith; local = λ t us vs a b h. both_syntax h }

pub nested_steady : {A : Type 0} → Steady {A = A} (λ ts. nested ts)
nested_steady {A} = record { short = λ ts. omega arith; local = λ t us vs a b h. both_nested h }

pub one_steady : {A : Type 0} (f : Lexeme → A) (kind : TokenKind) → Steady (take_one f kind)
one_steady {A} f kind = record { short = shorter; local = same }
  where
    shorter_by : (b : Bool) (c : Lexeme) (ts : List Lexeme) → length (left (let o : Outcome A = if b then found (f c) ts else syntax (c ∷ ts) in o)) ≤ length (c ∷ ts)
    shorter_by true c ts = omega arith
    shorter_by false c ts = omega arith

    shorter : (ts : List Lexeme) → length (left (take_one f kind ts)) ≤ length ts
    shorter [] = omega arith
    shorter (c ∷ ts) = shorter_by (same_kind c.kind kind) c ts

    here_by : (b : Bool) (t : Lexeme) (us vs : List Lexeme) → Follows {A = A} t us vs (if b then found (f t) us else syntax (t ∷ us)) (if b then found (f t) vs else syntax (t ∷ vs))
    here_by true t us vs = past (omega arith)
    here_by false t us vs = both_syntax here

    there_by : (b : Bool) (c t : Lexeme) (us vs a d : List Lexeme) → Agree t us vs a d → Follows {A = A} t us vs (if b then found (f c) a else syntax (c ∷ a)) (if b then found (f c) d else syntax (c ∷ d))
    there_by true c t us vs a d h = both_found h
    there_by false c t us vs a d h = both_syntax (there h)

    same : (t : Lexeme) (us vs a b : List Lexeme) → Agree t us vs a b → Follows t us vs (take_one f kind a) (take_one f kind b)
    same t us vs a b here = here_by (same_kind t.kind kind) t us vs
    same t us vs a b (there {c = c} {a = a2} {b = b2} h) = there_by (same_kind c.kind kind) c t us vs a2 b2 h

agree_at : (kind : TokenKind) (t : Lexeme) (us vs a b : List Lexeme) → Agree t us vs a b → is_at kind a ≡ is_at kind b
agree_at kind t us vs a b here = refl
agree_at kind t us vs a b (there h) = refl

agree_start : (t : Lexeme) (us vs a b : List Lexeme) → Agree t us vs a b → start a ≡ start b
agree_start t us vs a b here = refl
agree_start t us vs a b (there h) = refl

pub at_steady : {A : Type 0} (kind : TokenKind) (p q : Parser A) → Steady p → Steady q → Steady (λ ts. if is_at kind ts then p ts else q ts)
at_steady {A} kind p q s r = record {
  short = λ ts. by_short (is_at kind ts) ts;
  local = λ t us vs a b h. subst (λ (c : Bool). Follows t us vs (if is_at kind a then p a else q a) (if c then p b else q b)) (agree_at kind t us vs a b h) (by_local (is_at kind a) t us vs a b h);
}
  where
    by_short : (c : Bool) (ts : List Lexeme) → length (left (let o : Outcome A = if c then p ts else q ts in o)) ≤ length ts
    by_short true ts = s.short ts
    by_short false ts = r.short ts

    by_local : (c : Bool) (t : Lexeme) (us vs a b : List Lexeme) → Agree t us vs a b → Follows t us vs (if c then p a else q a) (if c then p b else q b)
    by_local true t us vs a b h = s.local t us vs a b h
    by_local false t us vs a b h = r.local t us vs a b h

pub start_steady : {A : Type 0} (p : Start → Parser A) → ((s : Start) → Steady (p s)) → Steady (λ ts. p (start ts) ts)
start_steady p s = record {
  short = λ ts. (s (start ts)).short ts;
  local = λ t us vs a b h. subst (λ c. Follows t us vs (p (start a) a) (p c b)) (agree_start t us vs a b h) ((s (start a)).local t us vs a b h);
}

module _ {S P A : Type 0} (sign : Lexeme → Option S) (make : S → A → P) (item : Parser A) (steady : Steady item) where
  parts_short : (turns : ℕ) (before : List P) (ts : List Lexeme) → length (left (parts_from sign make item turns before ts)) ≤ length ts
  unfolding parts_from
  parts_short zero before ts = omega arith
  parts_short (suc turns) before [] = omega arith
  parts_short (suc turns) before (t ∷ ts) = by (parts_short turns) (sign t)
    where
      by : ((before : List P) (ts : List Lexeme) → length (left (parts_from sign make item turns before ts)) ≤ length ts) → (o : Option S)
          → length (left (parts_by sign make item (parts_from sign make item turns) before (t ∷ ts) (behind ts o))) ≤ length (t ∷ ts)
      by next None = omega arith
      by next (Some s) = omega (arith, then_short (item ts) (λ x. parts_from sign make item turns (before ++ make s x ∷ [])) (λ x us. next (before ++ make s x ∷ []) us), steady.short ts)

  found_short : (ts : List Lexeme) (x : A) (us : List Lexeme) → item ts ≡ found x us → length us ≤ length ts
  found_short ts x us h = subst (λ o. length (left o) ≤ length ts) h (steady.short ts)

  parts_local : (j i : ℕ) (before : List P) (t : Lexeme) (us vs a b : List Lexeme) → length a ≤ j → length b ≤ i → Agree t us vs a b
      → Follows t us vs (parts_from sign make item j before a) (parts_from sign make item i before b)
  unfolding parts_from
  parts_local zero i before t us vs a b lj li here = absurd (omega arith)
  parts_local zero i before t us vs a b lj li (there h) = absurd (omega arith)
  parts_local (suc j) zero before t us vs a b lj li here = absurd (omega arith)
  parts_local (suc j) zero before t us vs a b lj li (there h) = absurd (omega arith)
  parts_local (suc j) (suc i) before t us vs a b lj li here = by (sign t)
    where
      by : (o : Option S) → Follows t us vs (parts_by sign make item (parts_from sign make item j) before (t ∷ us) (behind us o)) (parts_by sign make item (parts_from sign make item i) before (t ∷ vs) (behind vs o))
      by None = both_found here
      by (Some s) = past (omega (arith, then_short (item us) (λ x. parts_from sign make item j (before ++ make s x ∷ [])) (λ x ts. parts_short j (before ++ make s x ∷ []) ts), steady.short us))
  parts_local (suc j) (suc i) before t us vs a b lj li (there {c = c} {a = a2} {b = b2} h) = by (parts_local j i) (sign c)
    where
      by : ((before : List P) (t : Lexeme) (us vs a b : List Lexeme) → length a ≤ j → length b ≤ i → Agree t us vs a b → Follows t us vs (parts_from sign make item j before a) (parts_from sign make item i before b))
          → (o : Option S) → Follows t us vs (parts_by sign make item (parts_from sign make item j) before (c ∷ a2) (behind a2 o)) (parts_by sign make item (parts_from sign make item i) before (c ∷ b2) (behind b2 o))
      by next None = both_found (there h)
      by next (Some s) = then_local t us vs (item a2) (item b2) (λ x. parts_from sign make item j (before ++ make s x ∷ [])) (λ x. parts_from sign make item i (before ++ make s x ∷ []))
          (steady.local t us vs a2 b2 h) (λ x ts. parts_short j (before ++ make s x ∷ []) ts)
          (λ x d f e1 e2 g. next (before ++ make s x ∷ []) t us vs d f (omega (arith, found_short a2 x d e1)) (omega (arith, found_short b2 x f e2)) g)

  pub parts_steady : (before : List P) → Steady (λ ts. parts_from sign make item (length ts) before ts)
  parts_steady before = record { short = λ ts. parts_short (length ts) before ts; local = λ t us vs a b h. parts_local (length a) (length b) before t us vs a b (omega arith) (omega arith) h }

module _ (f : Parser Expr) (s : Steady f) where
  pub product_steady : Steady (read.product f)
  unfolding read.product
  product_steady = then_steady f (factors_after f) s (λ first. then_steady (λ ts. parts_from product_sign product_part f (length ts) [] ts) (λ ps. gives (product_of first) ps) (parts_steady product_sign product_part f s []) (λ ps. gives_steady (product_of first) ps))

  pub sum_steady : Steady (read.sum f)
  unfolding read.sum
  sum_steady = then_steady (read.product f) (products_after f) product_steady (λ first. then_steady (λ ts. parts_from sum_sign sum_part (read.product f) (length ts) [] ts) (λ ps. gives (sum_of first) ps)
      (parts_steady sum_sign sum_part (read.product f) product_steady []) (λ ps. gives_steady (sum_of first) ps))

  closed_steady : {A : Type 0} (kind : TokenKind) (g : A → Expr) (x : A) → Steady (closed kind g x)
  closed_steady kind g x = then_steady (expect kind) (λ at. gives (λ a. g x) at) (one_steady place_of kind) (λ at. gives_steady (λ a. g x) at)

  further_steady : (first : Expr) → Steady (read.further f first)
  further_steady first = parts_steady comma (λ at x. x) (read.sum f) sum_steady (first ∷ [])

  arguments_steady : Steady (read.arguments f)
  unfolding read.arguments
  arguments_steady = at_steady k.Close (λ ts. found [] ts) (λ ts. and_then (read.sum f ts) (read.further f)) (gives_steady (λ (xs : List Expr). xs) []) (then_steady (read.sum f) (read.further f) sum_steady further_steady)

  indexed_steady : (id : Ident) → Steady (indexed_deep f id)
  indexed_steady id = then_steady (expect k.OpenBracket) (λ at. index_of f id) (one_steady place_of k.OpenBracket) (λ at. then_steady (read.sum f) (closed k.CloseBracket (e.Item id)) sum_steady (λ x. closed_steady k.CloseBracket (e.Item id) x))

  called_steady : (id : Ident) → Steady (called_deep f id)
  called_steady id = then_steady (expect k.Open) (λ at. call_of f id) (one_steady place_of k.Open) (λ at. then_steady (read.arguments f) (closed k.Close (e.Call id)) arguments_steady (λ xs. closed_steady k.Close (e.Call id) xs))

  named_steady : (id : Ident) → Steady (named_deep f id)
  named_steady id = at_steady k.OpenBracket (indexed_deep f id) (λ ts. if is_at k.Open ts then called_deep f id ts else found (e.One id) ts) (indexed_steady id)
      (at_steady k.Open (called_deep f id) (λ ts. found (e.One id) ts) (called_steady id) (gives_steady e.One id))

  deep_steady : (c : Start) → Steady (factor_deep f c)
  deep_steady starts.Number = then_steady number (λ v. gives e.Lit v) (one_steady num_of k.Number) (λ v. gives_steady e.Lit v)
  deep_steady starts.Word = then_steady word (named_deep f) (one_steady ident_of k.Word) named_steady
  deep_steady starts.Minus = then_steady (expect k.Minus) (negative_of f) (one_steady place_of k.Minus) (λ at. then_steady f (λ y. gives (e.Neg at) y) s (λ y. gives_steady (e.Neg at) y))
  deep_steady starts.Open = then_steady (expect k.Open) (λ at. group_of f) (one_steady place_of k.Open) (λ at. then_steady (read.sum f) (closed k.Close (λ x. x)) sum_steady (λ x. closed_steady k.Close (λ x. x) x))
  deep_steady starts.Other = syntax_steady

flat_steady : (c : Start) → Steady (factor_flat c)
flat_steady starts.Number = then_steady number (λ v. gives e.Lit v) (one_steady num_of k.Number) (λ v. gives_steady e.Lit v)
flat_steady starts.Word = then_steady word named_flat (one_steady ident_of k.Word)
    (λ id. at_steady k.OpenBracket (λ ts. nested ts) (λ ts. if is_at k.Open ts then nested ts else found (e.One id) ts) nested_steady (at_steady k.Open (λ ts. nested ts) (λ ts. found (e.One id) ts) nested_steady (gives_steady e.One id)))
flat_steady starts.Minus = nested_steady
flat_steady starts.Open = nested_steady
flat_steady starts.Other = syntax_steady

pub factor_steady : (n : ℕ) → Steady (read.factor n)
unfolding read.factor
factor_steady zero = start_steady factor_flat flat_steady
factor_steady (suc n) = start_steady (factor_deep (read.factor n)) (deep_steady (read.factor n) (factor_steady n))
