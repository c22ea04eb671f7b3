-- What has the productions is answered, unless it nests too deep.
use Rattle.std.proofs.Common.{◌≡◌, ◌∙◌, sym, ap, subst, refl, ℕ, zero, suc, ◌<◌, ◌≤◌, List, [], ◌∷◌, ◌++◌, Bool, true, false, Some, None, append_assoc, append-nil, length, length-append, arith}
use Rattle.std.specs.Prelude.{if◌then◌else◌}
use Rattle.heco_lex.specs.declared.place.Place.{Place}
use Rattle.heco_lex.specs.declared.token.TokenKind.{TokenKind}
use Rattle.heco_lex.specs.declared.token.TokenKind.TheVariants as k
use Rattle.heco_syntax.specs.declared.lexeme.Lexeme.{Lexeme}
use Rattle.heco_syntax.specs.declared.tree.Expr.{Expr}
use Rattle.heco_syntax.specs.declared.tree.Expr.TheVariants as e
use Rattle.heco_syntax.specs.declared.tree.SumPart.{SumPart}
use Rattle.heco_syntax.specs.declared.tree.ProdPart.{ProdPart}
use Rattle.heco_syntax.specs.Parts.{place_of, ident_of, num_of, comma, comma_by, sum_of, product_of, sum_sign, sum_sign_of, with_place, product_sign, product_sign_by, sum_part, product_part}
use Rattle.heco_expressions.specs.Reading.{Outcome, Parser, found, syntax, nested, and_then, gives, take_one, start_of, is_at, same_kind, closed, index_of, call_of, indexed_deep, called_deep, group_of, negative_of, named_by, factor_by, signed, behind, parts_from, parts_by, factors_after, products_after}
use Rattle.heco_expressions.specs.Reading as read
use Rattle.heco_syntax.specs.Grammar.{IsFactor, AreArguments, AreFurther, IsProduct, AreFactors, IsSum, AreProducts, literal, name, item, negative, group, call, no_argument, arguments, no_further, further, product, no_factor, factors, sum, no_product, products}
use Rattle.heco_expressions.proofs.Verdicts.{same_self}
use Rattle.heco_expressions.proofs.Levels.{factor_starts}

-- with n levels, what needs at most m is answered, or nests too deep
pub data Answers {A : Type 0} (n m : ℕ) (o : Outcome A) (x : A) (rest : List Lexeme) : Type 0 where
  answered : o ≡ found x rest → Answers n m o x rest
  too_deep : (us : List Lexeme) → n < m → o ≡ nested us → Answers n m o x rest

pub then_answers : {A B : Type 0} (n m : ℕ) (o : Outcome A) (f : A → Parser B) (x : A) (mid : List Lexeme) (y : B) (rest : List Lexeme) → Answers n m o x mid → Answers n m (f x mid) y rest → Answers n m (and_then o f) y rest
then_answers n m o f x mid y rest (answered h) g = subst (λ p. Answers n m (and_then p f) y rest) (sym h) g
then_answers n m o f x mid y rest (too_deep us lt h) g = too_deep us lt (ap (λ p. and_then p f) h)

deeper_answers : {A : Type 0} (n m : ℕ) (o : Outcome A) (x : A) (rest : List Lexeme) → Answers n m o x rest → Answers (suc n) (suc m) o x rest
deeper_answers n m o x rest (answered h) = answered h
deeper_answers n m o x rest (too_deep us lt h) = too_deep us (omega arith) h

pub takes : {A : Type 0} (f : Lexeme → A) (kind : TokenKind) (t : Lexeme) (ts : List Lexeme) → t.kind ≡ kind → take_one f kind (t ∷ ts) ≡ found (f t) ts
takes f kind t ts h = ap (λ (b : Bool). if b then found (f t) ts else syntax (t ∷ ts)) (ap (λ a. same_kind a kind) h ∙ same_self kind)

starts_with : (n : ℕ) (t : Lexeme) (ts : List Lexeme) (kind : TokenKind) → t.kind ≡ kind → read.factor n (t ∷ ts) ≡ factor_by n (start_of kind) (t ∷ ts)
starts_with n t ts kind h = factor_starts n (t ∷ ts) ∙ ap (λ a. factor_by n (start_of a) (t ∷ ts)) h

-- a token of the kind continues no name
pub record NoName (a : TokenKind) : Type 0 where
  pub bracket : same_kind a k.OpenBracket ≡ false
  pub paren : same_kind a k.Open ≡ false

-- the tokens continue no name
pub record EndsName (rest : List Lexeme) : Type 0 where
  pub bracket : is_at k.OpenBracket rest ≡ false
  pub paren : is_at k.Open rest ≡ false

ends_name : (t : Lexeme) (ts : List Lexeme) → NoName t.kind → EndsName (t ∷ ts)
ends_name t ts h = record { bracket = h.bracket; paren = h.paren }

-- the tokens continue no expression
pub record Ends (rest : List Lexeme) : Type 0 where
  pub name : EndsName rest
  pub product : signed product_sign rest ≡ None
  pub sum : signed sum_sign rest ≡ None

pub ends_nil : Ends []
ends_nil = record { name = record { bracket = refl; paren = refl }; product = refl; sum = refl }

-- a token of the kind continues no expression
pub record Stops (kind : TokenKind) : Type 0 where
  pub bracket : same_kind kind k.OpenBracket ≡ false
  pub paren : same_kind kind k.Open ≡ false
  pub product : (at : Place) → product_sign_by at kind ≡ None
  pub sum : sum_sign_of kind ≡ None

pub stops_ends : (kind : TokenKind) → Stops kind → (t : Lexeme) (rest : List Lexeme) → t.kind ≡ kind → Ends (t ∷ rest)
stops_ends kind s t rest h = record {
  name = record { bracket = ap (λ a. same_kind a k.OpenBracket) h ∙ s.bracket; paren = ap (λ a. same_kind a k.Open) h ∙ s.paren };
  product = ap (λ a. behind rest (product_sign_by t.at a)) h ∙ ap (behind rest) (s.product t.at);
  sum = ap (λ a. behind rest (with_place t.at (sum_sign_of a))) h ∙ ap (λ o. behind rest (with_place t.at o)) s.sum;
}

close_stops : Stops k.Close
close_stops = record { bracket = refl; paren = refl; product = λ at. refl; sum = refl }

pub bracket_stops : Stops k.CloseBracket
bracket_stops = record { bracket = refl; paren = refl; product = λ at. refl; sum = refl }

pub comma_stops : Stops k.Comma
comma_stops = record { bracket = refl; paren = refl; product = λ at. refl; sum = refl }

product_sign_ends : (a : TokenKind) (at at2 : Place) → product_sign_by at a ≡ Some at2 → NoName a
product_sign_ends k.Star at at2 h = record { bracket = refl; paren = refl }
product_sign_ends a at at2 h = cc

record SumSign (a : TokenKind) : Type 0 where
  name : NoName a
  product : (at : Place) → product_sign_by at a ≡ None

sum_sign_ends : (a : TokenKind) (at : Place) (s : Bool × Place) → with_place at (sum_sign_of a) ≡ Some s → SumSign a
sum_sign_ends k.Plus at s h = record { name = record { bracket = refl; paren = refl }; product = λ at. refl }
sum_sign_ends k.Minus at s h = record { name = record { bracket = refl; paren = refl }; product = λ at. refl }
sum_sign_ends a at s h = cc

comma_is : (a : TokenKind) (at at2 : Place) → comma_by at a ≡ Some at2 → a ≡ k.Comma
comma_is k.Comma at at2 h = refl
comma_is a at at2 h = cc

factors_name : {m : ℕ} {us : List Lexeme} {ps : List ProdPart} → AreFactors m us ps → (rest : List Lexeme) → EndsName rest → EndsName (us ++ rest)
factors_name no_factor rest h = h
factors_name (factors {t = t} {at = at} {ts = ts} {us = us} s i a) rest h = ends_name t ((ts ++ us) ++ rest) (product_sign_ends t.kind t.at at s)

products_name : {m : ℕ} {us : List Lexeme} {ps : List SumPart} → AreProducts m us ps → (rest : List Lexeme) → EndsName rest → EndsName (us ++ rest)
products_name no_product rest h = h
products_name (products {t = t} {sign = g} {ts = ts} {us = us} s i a) rest h = ends_name t ((ts ++ us) ++ rest) (sum_sign_ends t.kind t.at g s).name

further_ends : {m : ℕ} {us : List Lexeme} {xs : List Expr} → AreFurther m us xs → (rest : List Lexeme) → Ends rest → Ends (us ++ rest)
further_ends no_further rest h = h
further_ends (further {t = t} {at = at} {ts = ts} {us = us} s i a) rest h = stops_ends k.Comma comma_stops t ((ts ++ us) ++ rest) (comma_is t.kind t.at at s)

products_product : {m : ℕ} {us : List Lexeme} {ps : List SumPart} → AreProducts m us ps → (rest : List Lexeme) → signed product_sign rest ≡ None → signed product_sign (us ++ rest) ≡ None
products_product no_product rest h = h
products_product (products {t = t} {sign = g} {ts = ts} {us = us} s i a) rest h = ap (behind ((ts ++ us) ++ rest)) ((sum_sign_ends t.kind t.at g s).product t.at)

factors_count : {m : ℕ} {us : List Lexeme} {ps : List ProdPart} → AreFactors m us ps → length ps ≤ length us
factors_count no_factor = omega arith
factors_count (factors {ts = ts} {us = us} s i a) = omega (arith, factors_count a, length-append ts us)

products_count : {m : ℕ} {us : List Lexeme} {ps : List SumPart} → AreProducts m us ps → length ps ≤ length us
products_count no_product = omega arith
products_count (products {ts = ts} {us = us} s i a) = omega (arith, products_count a, length-append ts us)

further_count : {m : ℕ} {us : List Lexeme} {xs : List Expr} → AreFurther m us xs → length xs ≤ length us
further_count no_further = omega arith
further_count (further {ts = ts} {us = us} s i a) = omega (arith, further_count a, length-append ts us)

-- no expression begins with ")"
factor_open : {m : ℕ} {pre : List Lexeme} {x : Expr} → IsFactor m pre x → (rest : List Lexeme) → is_at k.Close (pre ++ rest) ≡ false
factor_open (literal h is) rest = ap (λ a. same_kind a k.Close) h
factor_open (name h is) rest = ap (λ a. same_kind a k.Close) h
factor_open (item c h ho i hc is) rest = ap (λ a. same_kind a k.Close) h
factor_open (negative h i is) rest = ap (λ a. same_kind a k.Close) h
factor_open (group c ho i hc) rest = ap (λ a. same_kind a k.Close) ho
factor_open (call c h ho i hc is) rest = ap (λ a. same_kind a k.Close) h

product_open : {m : ℕ} {pre : List Lexeme} {x : Expr} → IsProduct m pre x → (rest : List Lexeme) → is_at k.Close (pre ++ rest) ≡ false
product_open (product {ts = ts} {us = us} i a is) rest = ap (is_at k.Close) (append_assoc ts us rest) ∙ factor_open i (us ++ rest)

sum_open : {m : ℕ} {pre : List Lexeme} {x : Expr} → IsSum m pre x → (rest : List Lexeme) → is_at k.Close (pre ++ rest) ≡ false
sum_open (sum {ts = ts} {us = us} i a is) rest = ap (is_at k.Close) (append_assoc ts us rest) ∙ product_open i (us ++ rest)

-- what stands behind a name
behind_name : (ts : List Lexeme) (o p q : Outcome Expr) (b c : Bool) → is_at k.OpenBracket ts ≡ b → is_at k.Open ts ≡ c
    → (if is_at k.OpenBracket ts then o else if is_at k.Open ts then p else q) ≡ (if b then o else if c then p else q)
behind_name ts o p q b c h g = ap (λ (d : Bool). if d then o else if is_at k.Open ts then p else q) h ∙ ap (λ (d : Bool). if b then o else if d then p else q) g

named_alone : (n : ℕ) (t : Lexeme) (ts : List Lexeme) → EndsName ts → named_by n (ident_of t) ts ≡ found (e.One (ident_of t)) ts
named_alone zero t ts h = behind_name ts (nested ts) (nested ts) (found (e.One (ident_of t)) ts) false false h.bracket h.paren
named_alone (suc n) t ts h =
    behind_name ts (indexed_deep (read.factor n) (ident_of t) ts) (called_deep (read.factor n) (ident_of t) ts) (found (e.One (ident_of t)) ts) false false h.bracket h.paren

word_taken : (n : ℕ) (w : Lexeme) (ts : List Lexeme) → w.kind ≡ k.Word → read.factor n (w ∷ ts) ≡ named_by n (ident_of w) ts
word_taken n w ts h = starts_with n w ts k.Word h ∙ ap (λ p. and_then p (named_by n)) (takes ident_of k.Word w ts h)

module _ (w o : Lexeme) (ts : List Lexeme) (h : w.kind ≡ k.Word) where
  index_nested : o.kind ≡ k.OpenBracket → read.factor 0 (w ∷ o ∷ ts) ≡ nested (o ∷ ts)
  index_nested g = word_taken 0 w (o ∷ ts) h
      ∙ ap (λ (b : Bool). if b then nested (o ∷ ts) else if is_at k.Open (o ∷ ts) then nested (o ∷ ts) else found (e.One (ident_of w)) (o ∷ ts)) (ap (λ a. same_kind a k.OpenBracket) g)

  call_nested : o.kind ≡ k.Open → read.factor 0 (w ∷ o ∷ ts) ≡ nested (o ∷ ts)
  call_nested g = word_taken 0 w (o ∷ ts) h
      ∙ behind_name (o ∷ ts) (nested (o ∷ ts)) (nested (o ∷ ts)) (found (e.One (ident_of w)) (o ∷ ts)) false true (ap (λ a. same_kind a k.OpenBracket) g) (ap (λ a. same_kind a k.Open) g)

  module _ (n : ℕ) where
    named_index : o.kind ≡ k.OpenBracket → read.factor (suc n) (w ∷ o ∷ ts) ≡ index_of (read.factor n) (ident_of w) ts
    named_index g = word_taken (suc n) w (o ∷ ts) h
        ∙ ap (λ (b : Bool). if b then indexed_deep (read.factor n) (ident_of w) (o ∷ ts) else if is_at k.Open (o ∷ ts) then called_deep (read.factor n) (ident_of w) (o ∷ ts) else found (e.One (ident_of w)) (o ∷ ts))
        (ap (λ a. same_kind a k.OpenBracket) g)
        ∙ ap (λ p. and_then p (λ at. index_of (read.factor n) (ident_of w))) (takes place_of k.OpenBracket o ts g)

    named_call : o.kind ≡ k.Open → read.factor (suc n) (w ∷ o ∷ ts) ≡ call_of (read.factor n) (ident_of w) ts
    named_call g = word_taken (suc n) w (o ∷ ts) h
        ∙ behind_name (o ∷ ts) (indexed_deep (read.factor n) (ident_of w) (o ∷ ts)) (called_deep (read.factor n) (ident_of w) (o ∷ ts)) (found (e.One (ident_of w)) (o ∷ ts)) false true
        (ap (λ a. same_kind a k.OpenBracket) g) (ap (λ a. same_kind a k.Open) g)
        ∙ ap (λ p. and_then p (λ at. call_of (read.factor n) (ident_of w))) (takes place_of k.Open o ts g)

module _ {A : Type 0} (kind : TokenKind) (g : A → Expr) (c : Lexeme) (rest : List Lexeme) (h : c.kind ≡ kind) where
  closes : (x : A) (z : Expr) → z ≡ g x → closed kind g x (c ∷ rest) ≡ found z rest
  closes x z is = ap (λ p. and_then p (gives (λ at. g x))) (takes place_of kind c rest h) ∙ ap (λ v. found v rest) (sym is)

  within : (n m : ℕ) (p : Parser A) (ts : List Lexeme) (x : A) (z : Expr) → Answers n m (p (ts ++ c ∷ rest)) x (c ∷ rest) → z ≡ g x → Answers n m (and_then (p ((ts ++ c ∷ []) ++ rest)) (closed kind g)) z rest
  within n m p ts x z a is = subst (λ v. Answers n m (and_then (p v) (closed kind g)) z rest) (sym (append_assoc ts (c ∷ []) rest))
      (then_answers n m (p (ts ++ c ∷ rest)) (closed kind g) x (c ∷ rest) z rest a (answered (closes x z is)))

mutual
  unfolding read.product read.sum read.arguments parts_from

  pub complete_factor : {m : ℕ} {pre : List Lexeme} {x : Expr} → IsFactor m pre x → (n : ℕ) (rest : List Lexeme) → EndsName rest → Answers n m (read.factor n (pre ++ rest)) x rest
  complete_factor (literal {t = t} h is) n rest end =
      answered (starts_with n t rest k.Number h ∙ ap (λ o. and_then o (gives e.Lit)) (takes num_of k.Number t rest h) ∙ ap (λ v. found v rest) (sym is))
  complete_factor (name {t = t} h is) n rest end =
      answered (starts_with n t rest k.Word h ∙ ap (λ o. and_then o (named_by n)) (takes ident_of k.Word t rest h) ∙ named_alone n t rest end ∙ ap (λ v. found v rest) (sym is))
  complete_factor (item {w = w} {o = o} c {ts = ts} h ho i hc is) zero rest end = too_deep _ (omega arith) (index_nested w o ((ts ++ c ∷ []) ++ rest) h ho)
  complete_factor (item {n = m} {w = w} {o = o} c {ts = ts} {x = x} {i = y} h ho i hc is) (suc n) rest end =
      subst (λ p. Answers (suc n) (suc m) p x rest) (sym (named_index w o ((ts ++ c ∷ []) ++ rest) h n ho))
      (deeper_answers n m _ x rest (within k.CloseBracket (e.Item (ident_of w)) c rest hc n m (read.sum (read.factor n)) ts y x (complete_sum i n (c ∷ rest) (stops_ends k.CloseBracket bracket_stops c rest hc)) is))
  complete_factor (negative {t = t} {ts = ts} h i is) zero rest end = too_deep _ (omega arith) (starts_with 0 t (ts ++ rest) k.Minus h)
  complete_factor (negative {n = m} {t = t} {ts = ts} {x = x} {y = y} h i is) (suc n) rest end =
      subst (λ p. Answers (suc n) (suc m) p x rest) (sym (starts_with (suc n) t (ts ++ rest) k.Minus h ∙ ap (λ o. and_then o (negative_of (read.factor n))) (takes place_of k.Minus t (ts ++ rest) h)))
      (deeper_answers n m _ x rest (then_answers n m (read.factor n (ts ++ rest)) (gives (e.Neg t.at)) y rest x rest (complete_factor i n rest end) (answered (ap (λ v. found v rest) (sym is)))))
  complete_factor (group {o = o} c {ts = ts} ho i hc) zero rest end = too_deep _ (omega arith) (starts_with 0 o ((ts ++ c ∷ []) ++ rest) k.Open ho)
  complete_factor (group {n = m} {o = o} c {ts = ts} {x = x} ho i hc) (suc n) rest end =
      subst (λ p. Answers (suc n) (suc m) p x rest) (sym (starts_with (suc n) o ((ts ++ c ∷ []) ++ rest) k.Open ho ∙ ap (λ p. and_then p (λ at. group_of (read.factor n))) (takes place_of k.Open o ((ts ++ c ∷ []) ++ rest) ho)))
      (deeper_answers n m _ x rest (within k.Close (λ v. v) c rest hc n m (read.sum (read.factor n)) ts x x (complete_sum i n (c ∷ rest) (stops_ends k.Close close_stops c rest hc)) refl))
  complete_factor (call {w = w} {o = o} c {ts = ts} h ho i hc is) zero rest end = too_deep _ (omega arith) (call_nested w o ((ts ++ c ∷ []) ++ rest) h ho)
  complete_factor (call {n = m} {w = w} {o = o} c {ts = ts} {x = x} {args = xs} h ho i hc is) (suc n) rest end =
      subst (λ p. Answers (suc n) (suc m) p x rest) (sym (named_call w o ((ts ++ c ∷ []) ++ rest) h n ho))
      (deeper_answers n m _ x rest (within k.Close (e.Call (ident_of w)) c rest hc n m (read.arguments (read.factor n)) ts xs x (complete_arguments i n c rest hc) is))

  pub complete_arguments : {m : ℕ} {us : List Lexeme} {xs : List Expr} → AreArguments m us xs → (n : ℕ) (c : Lexeme) (rest : List Lexeme) → c.kind ≡ k.Close
      → Answers n m (read.arguments (read.factor n) (us ++ c ∷ rest)) xs (c ∷ rest)
  complete_arguments no_argument n c rest h =
      answered (ap (λ (b : Bool). if b then found [] (c ∷ rest) else and_then (read.sum (read.factor n) (c ∷ rest)) (read.further (read.factor n))) (ap (λ a. same_kind a k.Close) h))
  complete_arguments {m} (arguments {ts = ts} {us = us} {x = x} {xs = xs} i a) n c rest h =
      let ends = stops_ends k.Close close_stops c rest h in
      subst (λ v. Answers n m (read.arguments (read.factor n) v) (x ∷ xs) (c ∷ rest)) (sym (append_assoc ts us (c ∷ rest)))
      (subst (λ (b : Bool). Answers n m (if b then found [] (ts ++ (us ++ c ∷ rest)) else and_then (read.sum (read.factor n) (ts ++ (us ++ c ∷ rest))) (read.further (read.factor n))) (x ∷ xs) (c ∷ rest)) (sym (sum_open i (us ++ c ∷ rest)))
      (then_answers n m (read.sum (read.factor n) (ts ++ (us ++ c ∷ rest))) (read.further (read.factor n)) x (us ++ c ∷ rest) (x ∷ xs) (c ∷ rest) (complete_sum i n (us ++ c ∷ rest) (further_ends a (c ∷ rest) ends))
      (complete_further a n (length (us ++ c ∷ rest)) (x ∷ []) (c ∷ rest) ends (ap (λ k. behind rest (comma_by c.at k)) h) (omega (arith, further_count a, length-append us (c ∷ rest))))))

  pub complete_further : {m : ℕ} {us : List Lexeme} {xs : List Expr} → AreFurther m us xs → (n turns : ℕ) (before : List Expr) (rest : List Lexeme) → Ends rest → signed comma rest ≡ None
      → length xs ≤ turns → Answers n m (parts_from comma (λ at x. x) (read.sum (read.factor n)) turns before (us ++ rest)) (before ++ xs) rest
  complete_further no_further n zero before rest end stop le = answered (ap (λ v. found v rest) (sym (append-nil before)))
  complete_further no_further n (suc turns) before rest end stop le =
      answered (ap (parts_by comma (λ at x. x) (read.sum (read.factor n)) (parts_from comma (λ at x. x) (read.sum (read.factor n)) turns) before rest) stop ∙ ap (λ v. found v rest) (sym (append-nil before)))
  complete_further (further s i a) n zero before rest end stop le = absurd (omega arith)
  complete_further {m} (further {t = t} {at = at} {ts = ts} {us = us} {x = x} {xs = xs} s i a) n (suc turns) before rest end stop le =
      let next = λ (y : Expr). parts_from comma (λ at x. x) (read.sum (read.factor n)) turns (before ++ y ∷ []) in
      subst (λ p. Answers n m p (before ++ x ∷ xs) rest)
      (sym (ap (λ q. parts_by comma (λ at x. x) (read.sum (read.factor n)) (parts_from comma (λ at x. x) (read.sum (read.factor n)) turns) before (t ∷ ((ts ++ us) ++ rest)) (behind ((ts ++ us) ++ rest) q)) s
      ∙ ap (λ v. and_then (read.sum (read.factor n) v) next) (append_assoc ts us rest)))
      (then_answers n m (read.sum (read.factor n) (ts ++ (us ++ rest))) next x (us ++ rest) (before ++ x ∷ xs) rest (complete_sum i n (us ++ rest) (further_ends a rest end))
      (subst (λ z. Answers n m (next x (us ++ rest)) z rest) (append_assoc before (x ∷ []) xs)
      (complete_further a n turns (before ++ x ∷ []) rest end stop (omega arith))))

  pub complete_product : {m : ℕ} {pre : List Lexeme} {x : Expr} → IsProduct m pre x → (n : ℕ) (rest : List Lexeme) → EndsName rest → signed product_sign rest ≡ None
      → Answers n m (read.product (read.factor n) (pre ++ rest)) x rest
  complete_product {m} (product {ts = ts} {us = us} {x = x} {first = first} {ps = ps} i a is) n rest end stop =
      subst (λ v. Answers n m (read.product (read.factor n) v) x rest) (sym (append_assoc ts us rest))
      (then_answers n m (read.factor n (ts ++ (us ++ rest))) (factors_after (read.factor n)) first (us ++ rest) x rest (complete_factor i n (us ++ rest) (factors_name a rest end))
      (then_answers n m (parts_from product_sign product_part (read.factor n) (length (us ++ rest)) [] (us ++ rest)) (gives (product_of first)) ps rest x rest
      (complete_factors a n (length (us ++ rest)) [] rest end stop (omega (arith, factors_count a, length-append us rest)))
      (answered (ap (λ v. found v rest) (sym is)))))

  pub complete_factors : {m : ℕ} {us : List Lexeme} {ps : List ProdPart} → AreFactors m us ps → (n turns : ℕ) (before : List ProdPart) (rest : List Lexeme) → EndsName rest → signed product_sign rest ≡ None
      → length ps ≤ turns → Answers n m (parts_from product_sign product_part (read.factor n) turns before (us ++ rest)) (before ++ ps) rest
  complete_factors no_factor n zero before rest end stop le = answered (ap (λ v. found v rest) (sym (append-nil before)))
  complete_factors no_factor n (suc turns) before rest end stop le =
      answered (ap (parts_by product_sign product_part (read.factor n) (parts_from product_sign product_part (read.factor n) turns) before rest) stop ∙ ap (λ v. found v rest) (sym (append-nil before)))
  complete_factors (factors s i a) n zero before rest end stop le = absurd (omega arith)
  complete_factors {m} (factors {t = t} {at = at} {ts = ts} {us = us} {x = x} {ps = ps} s i a) n (suc turns) before rest end stop le =
      let next = λ (y : Expr). parts_from product_sign product_part (read.factor n) turns (before ++ product_part at y ∷ []) in
      subst (λ p. Answers n m p (before ++ product_part at x ∷ ps) rest)
      (sym (ap (λ q. parts_by product_sign product_part (read.factor n) (parts_from product_sign product_part (read.factor n) turns) before (t ∷ ((ts ++ us) ++ rest)) (behind ((ts ++ us) ++ rest) q)) s
      ∙ ap (λ v. and_then (read.factor n v) next) (append_assoc ts us rest)))
      (then_answers n m (read.factor n (ts ++ (us ++ rest))) next x (us ++ rest) (before ++ product_part at x ∷ ps) rest (complete_factor i n (us ++ rest) (factors_name a rest end))
      (subst (λ z. Answers n m (next x (us ++ rest)) z rest) (append_assoc before (product_part at x ∷ []) ps)
      (complete_factors a n turns (before ++ product_part at x ∷ []) rest end stop (omega arith))))

  pub complete_sum : {m : ℕ} {pre : List Lexeme} {x : Expr} → IsSum m pre x → (n : ℕ) (rest : List Lexeme) → Ends rest → Answers n m (read.sum (read.factor n) (pre ++ rest)) x rest
  complete_sum {m} (sum {ts = ts} {us = us} {x = x} {first = first} {ps = ps} i a is) n rest end =
      subst (λ v. Answers n m (read.sum (read.factor n) v) x rest) (sym (append_assoc ts us rest))
      (then_answers n m (read.product (read.factor n) (ts ++ (us ++ rest))) (products_after (read.factor n)) first (us ++ rest) x rest
      (complete_product i n (us ++ rest) (products_name a rest end.name) (products_product a rest end.product))
      (then_answers n m (parts_from sum_sign sum_part (read.product (read.factor n)) (length (us ++ rest)) [] (us ++ rest)) (gives (sum_of first)) ps rest x rest
      (complete_products a n (length (us ++ rest)) [] rest end (omega (arith, products_count a, length-append us rest)))
      (answered (ap (λ v. found v rest) (sym is)))))

  pub complete_products : {m : ℕ} {us : List Lexeme} {ps : List SumPart} → AreProducts m us ps → (n turns : ℕ) (before : List SumPart) (rest : List Lexeme) → Ends rest
      → length ps ≤ turns → Answers n m (parts_from sum_sign sum_part (read.product (read.factor n)) turns before (us ++ rest)) (before ++ ps) rest
  complete_products no_product n zero before rest end le = answered (ap (λ v. found v rest) (sym (append-nil before)))
  complete_products no_product n (suc turns) before rest end le =
      answered (ap (parts_by sum_sign sum_part (read.product (read.factor n)) (parts_from sum_sign sum_part (read.product (read.factor n)) turns) before rest) end.sum ∙ ap (λ v. found v rest) (sym (append-nil before)))
  complete_products (products s i a) n zero before rest end le = absurd (omega arith)
  complete_products {m} (products {t = t} {sign = g} {ts = ts} {us = us} {x = x} {ps = ps} s i a) n (suc turns) before rest end le =
      let next = λ (y : Expr). parts_from sum_sign sum_part (read.product (read.factor n)) turns (before ++ sum_part g y ∷ []) in
      subst (λ p. Answers n m p (before ++ sum_part g x ∷ ps) rest)
      (sym (ap (λ q. parts_by sum_sign sum_part (read.product (read.factor n)) (parts_from sum_sign sum_part (read.product (read.factor n)) turns) before (t ∷ ((ts ++ us) ++ rest)) (behind ((ts ++ us) ++ rest) q)) s
      ∙ ap (λ v. and_then (read.product (read.factor n) v) next) (append_assoc ts us rest)))
      (then_answers n m (read.product (read.factor n) (ts ++ (us ++ rest))) next x (us ++ rest) (before ++ sum_part g x ∷ ps) rest
      (complete_product i n (us ++ rest) (products_name a rest end.name) (products_product a rest end.product))
      (subst (λ z. Answers n m (next x (us ++ rest)) z rest) (append_assoc before (sum_part g x ∷ []) ps)
      (complete_products a n turns (before ++ sum_part g x ∷ []) rest end (omega arith))))
