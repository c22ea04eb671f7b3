-- Tokens that differ in places alone spell statements and sources that differ in places alone.
use Rattle.std.proofs.Common.{◌≡◌, ◌∙◌, sym, ap, subst, refl, ℕ, zero, suc, List, [], ◌∷◌, Bool, Some, None, Option, map, ◌⊎◌, inl, inr}
use Rattle.heco_lex.specs.declared.place.Place.{Place}
use Rattle.heco_lex.specs.declared.token.TokenKind.{TokenKind}
use Rattle.heco_lex.specs.declared.token.TokenKind.TheVariants as k
use Rattle.heco_syntax.specs.Erasure.{IsLike, Alike, alike_nil, nowhere, bare, bare_ident, bare_num, bare_some, bare_stmt_step, bare_stmt, bare_param, bare_def, bare_source}
use Rattle.heco_syntax.specs.Parts.{place_of, ident_of, num_of, with_place, comma, comma_by, def_sign, def_sign_by, set_op, set_op_of, direction, direction_of, first_of, first_by}
use Rattle.heco_syntax.specs.Productions.{Spells, IsOne, IsKnown, IsNothing, Then, Many, none, more}
use Rattle.heco_syntax.specs.Sources.{IsSource, IsBlock, block_or}
use Rattle.heco_syntax.specs.Sources as g
use Rattle.heco_syntax.specs.declared.first.First.{First}
use Rattle.heco_syntax.specs.declared.first.First.TheVariants as first
use Rattle.heco_syntax.specs.declared.lexeme.Lexeme.{Lexeme}
use Rattle.heco_syntax.specs.declared.tree.Def.{Def}
use Rattle.heco_syntax.specs.declared.tree.Expr.{Expr}
use Rattle.heco_syntax.specs.declared.tree.Ident.{Ident}
use Rattle.heco_syntax.specs.declared.tree.Num.{Num}
use Rattle.heco_syntax.specs.declared.tree.Param.{Param}
use Rattle.heco_syntax.specs.declared.tree.SetOp.{SetOp}
use Rattle.heco_syntax.specs.declared.tree.Source.{Source}
use Rattle.heco_syntax.specs.declared.tree.Stmt.{Stmt, fold-roll-Stmt}
use Rattle.heco_syntax.specs.declared.tree.Stmt.TheOpen.{Stmt-F}
use Rattle.heco_syntax.specs.declared.tree.Stmt.TheVariants as s
use Rattle.heco_print_laws.proofs.LiftedExpressions.{cut, one, ident_like, num_like, lift_sum}

-- the tokens spell a value that the function can't tell from the other
pub record Gives {A C : Type 0} (Is : Spells A) (f : A → C) (us : List Lexeme) (x : A) : Type 0 where
  pub y : A
  pub is : Is us y
  pub same : f y ≡ f x

-- what the one relation spells, the other spells of the same tokens in other places
pub record Lifts {A C : Type 0} (P Q : Spells A) (f : A → C) : Type 0 where
  pub lifts : (ts us : List Lexeme) (x : A) → P ts x → Alike ts us → Gives Q f us x

then_lifts : {A B C D : Type 0} {P P2 : Spells A} {Q Q2 : A → Spells B} {f : A → C} {h : B → D} → Lifts P P2 f → ((x y : A) → f y ≡ f x → Lifts (Q x) (Q2 y) h) → Lifts (Then P Q) (Then P2 Q2) h
then_lifts p q = record {
  lifts = λ ts us z i a.
      let c = cut i.front i.back us (subst (λ v. Alike v us) i.all a) in
      let l = p.lifts i.front c.front i.x i.first c.first in
      let r = (q i.x l.y l.same).lifts i.back c.back z i.second c.second in
      record { y = r.y; is = record { front = c.front; x = l.y; back = c.back; all = c.all; first = l.is; second = r.is }; same = r.same };
}

one_lifts : {A C : Type 0} (kept : Lexeme → A) (kind : TokenKind) (f : A → C) → ((t u : Lexeme) → IsLike t u → f (kept u) ≡ f (kept t)) → Lifts (IsOne kept kind) (IsOne kept kind) f
one_lifts kept kind f h = record {
  lifts = λ ts us x i a.
      let o = one i.t us (subst (λ v. Alike v us) i.all a) in
      record { y = kept o.u; is = record { t = o.u; all = o.all; is = o.like.kind ∙ i.is; keeps = refl }; same = h i.t o.u o.like ∙ ap f (sym i.keeps) };
}

known_lifts : {A C : Type 0} (known : Lexeme → Option A) (f : A → C) → ((t u : Lexeme) (x : A) → IsLike t u → known t ≡ Some x → (y : A) × (known u ≡ Some y) × (f y ≡ f x)) → Lifts (IsKnown known) (IsKnown known) f
known_lifts known f h = record {
  lifts = λ ts us x i a.
      let o = one i.t us (subst (λ v. Alike v us) i.all a) in
      let r = h i.t o.u x o.like i.is in
      record { y = r.0; is = record { t = o.u; all = o.all; is = r.1 }; same = r.2 };
}

no_tokens : (us : List Lexeme) → Alike [] us → us ≡ []
no_tokens us alike_nil = refl

yields_lifts : {A C : Type 0} {f : A → C} (x y : A) → f y ≡ f x → Lifts (IsNothing x) (IsNothing y) f
yields_lifts {f = f} x y e = record { lifts = λ ts us z i a. record { y = y; is = record { all = no_tokens us (subst (λ v. Alike v us) i.all a); is = refl }; same = e ∙ ap f (sym i.is) } }

or_lifts : {A C : Type 0} {P P2 Q Q2 : Spells A} {f : A → C} → Lifts P P2 f → Lifts Q Q2 f → Lifts (λ ts x. P ts x ⊎ Q ts x) (λ ts x. P2 ts x ⊎ Q2 ts x) f
or_lifts {P = P} {P2 = P2} {Q = Q} {Q2 = Q2} {f = f} p q = record { lifts = λ ts us x i a. by ts us x i a }
  where
    by : (ts us : List Lexeme) (x : _) → P ts x ⊎ Q ts x → Alike ts us → Gives (λ vs y. P2 vs y ⊎ Q2 vs y) f us x
    by ts us x (inl i) a = let l = p.lifts ts us x i a in record { y = l.y; is = inl l.is; same = l.same }
    by ts us x (inr i) a = let l = q.lifts ts us x i a in record { y = l.y; is = inr l.is; same = l.same }

record AllGiven {A C : Type 0} (Is : Spells A) (f : A → C) (us : List Lexeme) (xs : List A) : Type 0 where
  ys : List A
  are : Many Is us ys
  same : map f ys ≡ map f xs

all_given : {A C : Type 0} {P Q : Spells A} {f : A → C} → Lifts P Q f → {ts : List Lexeme} {xs : List A} → Many P ts xs → (us : List Lexeme) → Alike ts us → AllGiven Q f us xs
all_given {Q = Q} p none us a = record { ys = []; are = subst (λ v. Many Q v []) (sym (no_tokens us a)) none; same = refl }
all_given {Q = Q} {f = f} p (more {ts = ts} {us = vs} {x = x} {xs = xs} i m) us a =
    let c = cut ts vs us a in
    let l = p.lifts ts c.front x i c.first in
    let r = all_given p m c.back c.second in
    record { ys = l.y ∷ r.ys; are = subst (λ v. Many Q v (l.y ∷ r.ys)) (sym c.all) (more l.is r.are); same = ap (λ v. v ∷ map f r.ys) l.same ∙ ap (λ v. f x ∷ v) r.same }

many_lifts : {A C : Type 0} {P Q : Spells A} {f : A → C} → Lifts P Q f → Lifts (Many P) (Many Q) (map f)
many_lifts p = record { lifts = λ ts us xs m a. let r = all_given p m us a in record { y = r.ys; is = r.are; same = r.same } }

-- of a place nothing is told
abbrev untold : Place → Unit {0}
untold at = tt

token_lifts : (kind : TokenKind) → Lifts (g.token kind) (g.token kind) untold
token_lifts kind = one_lifts place_of kind untold (λ t u h. refl)

word_lifts : Lifts g.word g.word bare_ident
word_lifts = one_lifts ident_of k.Word bare_ident ident_like

number_lifts : Lifts g.number g.number bare_num
number_lifts = one_lifts num_of k.Number bare_num num_like

expression_lifts : (n : ℕ) → Lifts (g.expression n) (g.expression n) bare
expression_lifts n = record { lifts = λ ts us x i a. let l = lift_sum i us a in record { y = l.y; is = l.is; same = l.same } }

comma_lifts : Lifts (g.known comma) (g.known comma) untold
comma_lifts = known_lifts comma untold (λ t u x h e. by t.at t.kind x e u.at u.kind h.kind)
  where
    by : (place : Place) (a : TokenKind) (x : Place) → comma_by place a ≡ Some x → (at : Place) (b : TokenKind) → b ≡ a → (y : Place) × (comma_by at b ≡ Some y) × (untold y ≡ untold x)
    by place k.Comma x e at b h = (at, ap (comma_by at) h, refl)
    by place a x e at b h = cc

after_lifts : {A C : Type 0} {P Q : Spells A} {f : A → C} → Lifts P Q f → Lifts (g.after_comma P) (g.after_comma Q) f
after_lifts p = then_lifts comma_lifts (λ x y e. p)

length_lifts : Lifts g.length_in_brackets g.length_in_brackets bare_num
length_lifts = then_lifts (token_lifts k.OpenBracket) (λ o o2 e. then_lifts number_lifts (λ len len2 h. then_lifts (token_lifts k.CloseBracket) (λ c c2 i. yields_lifts len len2 h)))

index_lifts : (n : ℕ) → Lifts (g.index n) (g.index n) (bare_some bare)
index_lifts zero = record { lifts = λ ts us x i a. absurd i }
index_lifts (suc n) = then_lifts (token_lifts k.OpenBracket) (λ o o2 e. then_lifts (expression_lifts n) (λ x x2 h. then_lifts (token_lifts k.CloseBracket) (λ c c2 i. yields_lifts (Some x) (Some x2) (ap (λ v. Some v) h))))

bare_int_one : (at : Place) (name : Ident) (x : Expr) → bare_stmt (s.IntOne at name x) ≡ s.IntOne nowhere (bare_ident name) (bare x)
bare_int_one at name x = ap bare_stmt (sym (s.rolls-IntOne at name x)) ∙ fold-roll-Stmt Stmt bare_stmt_step (Stmt-F.IntOne at name x)

bare_int_many : (at : Place) (name : Ident) (len : Num) (xs : List Expr) → bare_stmt (s.IntMany at name len xs) ≡ s.IntMany nowhere (bare_ident name) (bare_num len) (map bare xs)
bare_int_many at name len xs = ap bare_stmt (sym (s.rolls-IntMany at name len xs)) ∙ fold-roll-Stmt Stmt bare_stmt_step (Stmt-F.IntMany at name len xs)

bare_secret_one : (at : Place) (name : Ident) (x : Option Expr) → bare_stmt (s.SecretOne at name x) ≡ s.SecretOne nowhere (bare_ident name) (bare_some bare x)
bare_secret_one at name x = ap bare_stmt (sym (s.rolls-SecretOne at name x)) ∙ fold-roll-Stmt Stmt bare_stmt_step (Stmt-F.SecretOne at name x)

bare_secret_many : (at : Place) (name : Ident) (len : Num) → bare_stmt (s.SecretMany at name len) ≡ s.SecretMany nowhere (bare_ident name) (bare_num len)
bare_secret_many at name len = ap bare_stmt (sym (s.rolls-SecretMany at name len)) ∙ fold-roll-Stmt Stmt bare_stmt_step (Stmt-F.SecretMany at name len)

bare_set : (name : Ident) (i : Option Expr) (o : SetOp) (at : Place) (x : Expr) → bare_stmt (s.Set name i o at x) ≡ s.Set (bare_ident name) (bare_some bare i) o nowhere (bare x)
bare_set name i o at x = ap bare_stmt (sym (s.rolls-Set name i o at x)) ∙ fold-roll-Stmt Stmt bare_stmt_step (Stmt-F.Set name i o at x)

bare_loop : (at : Place) (name : Ident) (low high : Expr) (body : List Stmt) → bare_stmt (s.Loop at name low high body) ≡ s.Loop nowhere (bare_ident name) (bare low) (bare high) (map bare_stmt body)
bare_loop at name low high body = ap bare_stmt (sym (s.rolls-Loop at name low high body)) ∙ fold-roll-Stmt Stmt bare_stmt_step (Stmt-F.Loop at name low high body)

bare_choice : (at : Place) (test : Expr) (body : List Stmt) (other : Option (List Stmt)) → bare_stmt (s.Choice at test body other) ≡ s.Choice nowhere (bare test) (map bare_stmt body) (bare_some (map bare_stmt) other)
bare_choice at test body None = ap bare_stmt (sym (s.rolls-Choice at test body None)) ∙ fold-roll-Stmt Stmt bare_stmt_step (Stmt-F.Choice at test body None)
bare_choice at test body (Some other) = ap bare_stmt (sym (s.rolls-Choice at test body (Some other))) ∙ fold-roll-Stmt Stmt bare_stmt_step (Stmt-F.Choice at test body (Some other))

-- what is told of the first token of a statement
abbrev told_first : First → First
told_first (first.Int at) = first.Int nowhere
told_first (first.Secret at) = first.Secret nowhere
told_first (first.For at) = first.For nowhere
told_first (first.If at) = first.If nowhere
told_first (first.Name name) = first.Name (bare_ident name)

first_lifts : Lifts (g.known first_of) (g.known first_of) told_first
first_lifts = known_lifts first_of told_first (λ t u x h e. by t u h t.kind refl x e)
  where
    by : (t u : Lexeme) → IsLike t u → (a : TokenKind) → t.kind ≡ a → (x : First) → first_by t a ≡ Some x → (y : First) × (first_by u u.kind ≡ Some y) × (told_first y ≡ told_first x)
    by t u h k.Int e x g = (first.Int u.at, ap (first_by u) (h.kind ∙ e), (let p : first.Int t.at ≡ x = cc in ap told_first p))
    by t u h k.Secret e x g = (first.Secret u.at, ap (first_by u) (h.kind ∙ e), (let p : first.Secret t.at ≡ x = cc in ap told_first p))
    by t u h k.For e x g = (first.For u.at, ap (first_by u) (h.kind ∙ e), (let p : first.For t.at ≡ x = cc in ap told_first p))
    by t u h k.If e x g = (first.If u.at, ap (first_by u) (h.kind ∙ e), (let p : first.If t.at ≡ x = cc in ap told_first p))
    by t u h k.Word e x g = (first.Name (ident_of u), ap (first_by u) (h.kind ∙ e), (let p : first.Name (ident_of t) ≡ x = cc in ap first.Name (ident_like t u h) ∙ ap told_first p))
    by t u h a e x g = cc

abbrev told_op : SetOp × Place → SetOp
told_op o = o.0

set_op_lifts : Lifts (g.known set_op) (g.known set_op) told_op
set_op_lifts = known_lifts set_op told_op (λ t u x h e. (let r = by t.at (set_op_of t.kind) x e in ((x.0, u.at), ap (λ v. with_place u.at (set_op_of v)) h.kind ∙ ap (with_place u.at) r, refl)))
  where
    by : (at : Place) (o : Option SetOp) (x : SetOp × Place) → with_place at o ≡ Some x → o ≡ Some x.0
    by at None x e = cc
    by at (Some p) x e = let q : ◌≡◌ {A = SetOp × Place} (p, at) x = cc in ap (λ (v : SetOp × Place). Some v.0) q

direction_lifts : Lifts (g.known direction) (g.known direction) (λ b. b)
direction_lifts = known_lifts direction (λ b. b) (λ t u x h e. (x, ap direction_of h.kind ∙ e, refl))

module _ (n : ℕ) where
  value_lifts : Lifts (g.value n) (g.value n) bare
  value_lifts = then_lifts (expression_lifts n) (λ x x2 h. then_lifts (token_lifts k.Semi) (λ c c2 e. yields_lifts x x2 h))

  values_lifts : Lifts (g.values n) (g.values n) (map bare)
  values_lifts = then_lifts (expression_lifts n) (λ x x2 h. then_lifts (many_lifts (after_lifts (expression_lifts n))) (λ xs xs2 e. yields_lifts (x ∷ xs) (x2 ∷ xs2) (ap (λ v. v ∷ map bare xs2) h ∙ ap (λ v. bare x ∷ v) e)))

  braced_lifts : Lifts (g.braced_values n) (g.braced_values n) (map bare)
  braced_lifts = then_lifts (token_lifts k.OpenBrace) (λ o o2 e. then_lifts values_lifts (λ xs xs2 h. then_lifts (token_lifts k.CloseBrace) (λ c c2 i. yields_lifts xs xs2 h)))

  int_many_lifts : (at at2 : Place) (name name2 : Ident) → bare_ident name2 ≡ bare_ident name → Lifts (g.int_many n at name) (g.int_many n at2 name2) bare_stmt
  int_many_lifts at at2 name name2 e = then_lifts length_lifts (λ len len2 h. then_lifts (token_lifts k.Assign) (λ a a2 i. then_lifts braced_lifts (λ xs xs2 j. then_lifts (token_lifts k.Semi) (λ c c2 l.
      yields_lifts (s.IntMany at name len xs) (s.IntMany at2 name2 len2 xs2) (bare_int_many at2 name2 len2 xs2 ∙ ap (λ v. s.IntMany nowhere v (bare_num len2) (map bare xs2)) e ∙ ap (λ v. s.IntMany nowhere (bare_ident name) v (map bare xs2)) h
      ∙ ap (s.IntMany nowhere (bare_ident name) (bare_num len)) j ∙ sym (bare_int_many at name len xs))))))

  int_one_lifts : (at at2 : Place) (name name2 : Ident) → bare_ident name2 ≡ bare_ident name → Lifts (g.int_one n at name) (g.int_one n at2 name2) bare_stmt
  int_one_lifts at at2 name name2 e = then_lifts (token_lifts k.Assign) (λ a a2 i. then_lifts value_lifts (λ x x2 h.
      yields_lifts (s.IntOne at name x) (s.IntOne at2 name2 x2) (bare_int_one at2 name2 x2 ∙ ap (λ v. s.IntOne nowhere v (bare x2)) e ∙ ap (s.IntOne nowhere (bare_ident name)) h ∙ sym (bare_int_one at name x))))

  secret_many_lifts : (at at2 : Place) (name name2 : Ident) → bare_ident name2 ≡ bare_ident name → Lifts (g.secret_many n at name) (g.secret_many n at2 name2) bare_stmt
  secret_many_lifts at at2 name name2 e = then_lifts length_lifts (λ len len2 h. then_lifts (token_lifts k.Semi) (λ c c2 i.
      yields_lifts (s.SecretMany at name len) (s.SecretMany at2 name2 len2) (bare_secret_many at2 name2 len2 ∙ ap (λ v. s.SecretMany nowhere v (bare_num len2)) e ∙ ap (s.SecretMany nowhere (bare_ident name)) h ∙ sym (bare_secret_many at name len))))

  given_lifts : Lifts (g.given n) (g.given n) (bare_some bare)
  given_lifts = then_lifts (token_lifts k.Assign) (λ a a2 e. then_lifts value_lifts (λ x x2 h. yields_lifts (Some x) (Some x2) (ap (λ v. Some v) h)))

  not_given_lifts : Lifts (g.not_given n) (g.not_given n) (bare_some bare)
  not_given_lifts = then_lifts (token_lifts k.Semi) (λ c c2 e. yields_lifts None None refl)

  secret_one_lifts : (at at2 : Place) (name name2 : Ident) → bare_ident name2 ≡ bare_ident name → Lifts (g.secret_one n at name) (g.secret_one n at2 name2) bare_stmt
  secret_one_lifts at at2 name name2 e = then_lifts (or_lifts given_lifts not_given_lifts) (λ x x2 h.
      yields_lifts (s.SecretOne at name x) (s.SecretOne at2 name2 x2) (bare_secret_one at2 name2 x2 ∙ ap (λ v. s.SecretOne nowhere v (bare_some bare x2)) e ∙ ap (s.SecretOne nowhere (bare_ident name)) h ∙ sym (bare_secret_one at name x)))

  target_lifts : Lifts (λ ts x. g.index n ts x ⊎ g.no_index n ts x) (λ ts x. g.index n ts x ⊎ g.no_index n ts x) (bare_some bare)
  target_lifts = or_lifts (index_lifts n) (yields_lifts None None refl)

  assignment_lifts : (name name2 : Ident) → bare_ident name2 ≡ bare_ident name → Lifts (g.assignment n name) (g.assignment n name2) bare_stmt
  assignment_lifts name name2 e = then_lifts target_lifts (λ i i2 h. then_lifts set_op_lifts (λ o o2 l. then_lifts value_lifts (λ x x2 j.
      yields_lifts (s.Set name i o.0 o.1 x) (s.Set name2 i2 o2.0 o2.1 x2) (bare_set name2 i2 o2.0 o2.1 x2 ∙ ap (λ v. s.Set v (bare_some bare i2) o2.0 nowhere (bare x2)) e ∙ ap (λ v. s.Set (bare_ident name) v o2.0 nowhere (bare x2)) h
      ∙ ap (λ v. s.Set (bare_ident name) (bare_some bare i) v nowhere (bare x2)) l ∙ ap (s.Set (bare_ident name) (bare_some bare i) o.0 nowhere) j ∙ sym (bare_set name i o.0 o.1 x)))))

  int_lifts : (at at2 : Place) → Lifts (g.int_statement n at) (g.int_statement n at2) bare_stmt
  int_lifts at at2 = then_lifts word_lifts (λ name name2 e. or_lifts (int_many_lifts at at2 name name2 e) (int_one_lifts at at2 name name2 e))

  secret_lifts : (at at2 : Place) → Lifts (g.secret_statement n at) (g.secret_statement n at2) bare_stmt
  secret_lifts at at2 = then_lifts word_lifts (λ name name2 e. or_lifts (secret_many_lifts at at2 name name2 e) (secret_one_lifts at at2 name name2 e))

  abbrev bare_bounds : Expr × Expr → Expr × Expr
  bare_bounds b = (bare b.0, bare b.1)

  bounds_lifts : Lifts (g.bounds n) (g.bounds n) bare_bounds
  bounds_lifts = then_lifts (expression_lifts n) (λ low low2 e. then_lifts (token_lifts k.Range) (λ r r2 i. then_lifts (expression_lifts n) (λ high high2 h.
      yields_lifts (low, high) (low2, high2) (ap (λ v. (v, bare high2)) e ∙ ap (λ v. (bare low, v)) h))))

  module _ {block : Spells (List Stmt)} (block_lifts : Lifts block block (map bare_stmt)) where
    loop_lifts : (at at2 : Place) → Lifts (g.loop n block at) (g.loop n block at2) bare_stmt
    loop_lifts at at2 = then_lifts word_lifts (λ name name2 e. then_lifts (token_lifts k.In) (λ i i2 h. then_lifts bounds_lifts (λ b b2 j. then_lifts block_lifts (λ body body2 l.
        yields_lifts (s.Loop at name b.0 b.1 body) (s.Loop at2 name2 b2.0 b2.1 body2) (bare_loop at2 name2 b2.0 b2.1 body2 ∙ ap (λ v. s.Loop nowhere v (bare b2.0) (bare b2.1) (map bare_stmt body2)) e
        ∙ ap (λ (v : Expr × Expr). s.Loop nowhere (bare_ident name) v.0 v.1 (map bare_stmt body2)) j ∙ ap (s.Loop nowhere (bare_ident name) (bare b.0) (bare b.1)) l ∙ sym (bare_loop at name b.0 b.1 body))))))

    abbrev bare_other : Option (List Stmt) → Option (List Stmt)
    bare_other other = bare_some (map bare_stmt) other

    other_lifts : Lifts (λ ts x. g.otherwise n block ts x ⊎ g.no_otherwise n block ts x) (λ ts x. g.otherwise n block ts x ⊎ g.no_otherwise n block ts x) bare_other
    other_lifts = or_lifts (then_lifts (token_lifts k.Else) (λ a a2 e. then_lifts block_lifts (λ b b2 h. yields_lifts (Some b) (Some b2) (ap (λ v. Some v) h)))) (yields_lifts None None refl)

    choice_lifts : (at at2 : Place) → Lifts (g.choice n block at) (g.choice n block at2) bare_stmt
    choice_lifts at at2 = then_lifts (expression_lifts n) (λ test test2 e. then_lifts block_lifts (λ body body2 h. then_lifts other_lifts (λ other other2 j.
        yields_lifts (s.Choice at test body other) (s.Choice at2 test2 body2 other2) (bare_choice at2 test2 body2 other2 ∙ ap (λ v. s.Choice nowhere v (map bare_stmt body2) (bare_other other2)) e
        ∙ ap (λ v. s.Choice nowhere (bare test) v (bare_other other2)) h ∙ ap (s.Choice nowhere (bare test) (map bare_stmt body)) j ∙ sym (bare_choice at test body other)))))

    rest_lifts : (f f2 : First) → told_first f2 ≡ told_first f → Lifts (g.statement_from n block f) (g.statement_from n block f2) bare_stmt
    rest_lifts (first.Int at) (first.Int at2) e = int_lifts at at2
    rest_lifts (first.Secret at) (first.Secret at2) e = secret_lifts at at2
    rest_lifts (first.For at) (first.For at2) e = loop_lifts at at2
    rest_lifts (first.If at) (first.If at2) e = choice_lifts at at2
    rest_lifts (first.Name name) (first.Name name2) e = assignment_lifts name name2 (let p : first.Name (bare_ident name2) ≡ first.Name (bare_ident name) = e in cc)
    rest_lifts f f2 e = cc

    statement_lifts : Lifts (g.statement n block) (g.statement n block) bare_stmt
    statement_lifts = then_lifts first_lifts rest_lifts

    braces_lifts : Lifts (g.braces n block) (g.braces n block) (map bare_stmt)
    braces_lifts = then_lifts (token_lifts k.OpenBrace) (λ o o2 e. then_lifts (many_lifts statement_lifts) (λ xs xs2 h. then_lifts (token_lifts k.CloseBrace) (λ c c2 i. yields_lifts xs xs2 h)))

block_lifts : (n d : ℕ) → Lifts (IsBlock n d) (IsBlock n d) (map bare_stmt)
unfolding block_or
block_lifts n zero = record { lifts = λ ts us x i a. absurd i }
block_lifts n (suc d) = braces_lifts n (block_lifts n d)

length_given_lifts : Lifts g.length_given g.length_given (bare_some bare_num)
length_given_lifts = then_lifts length_lifts (λ len len2 h. yields_lifts (Some len) (Some len2) (ap (λ v. Some v) h))

param_lifts : Lifts g.param g.param bare_param
param_lifts = then_lifts direction_lifts (λ out out2 e. then_lifts word_lifts (λ name name2 h. then_lifts (or_lifts length_given_lifts (yields_lifts None None refl)) (λ l l2 i.
    yields_lifts (record { output = out; name = name; len = l }) (record { output = out2; name = name2; len = l2 })
    (ap (λ (v : Bool). let p : Param = record { output = v; name = bare_ident name2; len = bare_some bare_num l2 } in p) e ∙ ap (λ (v : Ident). let p : Param = record { output = out; name = v; len = bare_some bare_num l2 } in p) h
    ∙ ap (λ (v : Option Num). let p : Param = record { output = out; name = bare_ident name; len = v } in p) i))))

preset_lifts : Lifts g.preset_line g.preset_line bare_ident
preset_lifts = then_lifts (token_lifts k.Params) (λ p p2 e. then_lifts word_lifts (λ preset preset2 h. then_lifts (token_lifts k.Semi) (λ c c2 i. yields_lifts preset preset2 h)))

def_sign_lifts : Lifts (g.known def_sign) (g.known def_sign) untold
def_sign_lifts = known_lifts def_sign untold (λ t u x h e. by t.at t.kind x e u.at u.kind h.kind)
  where
    by : (place : Place) (a : TokenKind) (x : Place) → def_sign_by place a ≡ Some x → (at : Place) (b : TokenKind) → b ≡ a → (y : Place) × (def_sign_by at b ≡ Some y) × (untold y ≡ untold x)
    by place k.Def x e at b h = (at, ap (def_sign_by at) h, refl)
    by place a x e at b h = cc

params_lifts : Lifts g.params g.params (map bare_ident)
params_lifts = then_lifts (token_lifts k.Open) (λ o o2 e. then_lifts (or_lifts (yields_lifts [] [] refl) some) (λ xs xs2 h. then_lifts (token_lifts k.Close) (λ c c2 i. yields_lifts xs xs2 h)))
  where
    some : Lifts g.some_words g.some_words (map bare_ident)
    some = then_lifts word_lifts (λ x x2 e. then_lifts (many_lifts (after_lifts word_lifts)) (λ xs xs2 h. yields_lifts (x ∷ xs) (x2 ∷ xs2) (ap (λ v. v ∷ map bare_ident xs2) e ∙ ap (λ v. bare_ident x ∷ v) h)))

definition_lifts : (n : ℕ) → Lifts (g.definition n) (g.definition n) bare_def
definition_lifts n = then_lifts def_sign_lifts (λ at at2 e. then_lifts word_lifts (λ name name2 h. then_lifts params_lifts (λ xs xs2 i. then_lifts (token_lifts k.Assign) (λ a a2 j. then_lifts (value_lifts n) (λ x x2 l.
    yields_lifts (record { at = at; name = name; params = xs; value = x }) (record { at = at2; name = name2; params = xs2; value = x2 })
    (ap (λ (v : Ident). let d : Def = record { at = nowhere; name = v; params = map bare_ident xs2; value = bare x2 } in d) h
    ∙ ap (λ (v : List Ident). let d : Def = record { at = nowhere; name = bare_ident name; params = v; value = bare x2 } in d) i
    ∙ ap (λ (v : Expr). let d : Def = record { at = nowhere; name = bare_ident name; params = map bare_ident xs; value = v } in d) l))))))

signature_lifts : Lifts g.signature g.signature (map bare_param)
signature_lifts = then_lifts (token_lifts k.Open) (λ o o2 e. then_lifts (or_lifts (yields_lifts [] [] refl) some) (λ ps ps2 h. then_lifts (token_lifts k.Close) (λ c c2 i. yields_lifts ps ps2 h)))
  where
    some : Lifts g.some_params g.some_params (map bare_param)
    some = then_lifts param_lifts (λ p p2 e. then_lifts (many_lifts (after_lifts param_lifts)) (λ ps ps2 h. yields_lifts (p ∷ ps) (p2 ∷ ps2) (ap (λ v. v ∷ map bare_param ps2) e ∙ ap (λ v. bare_param p ∷ v) h)))

pub source_lifts : (n d : ℕ) → Lifts (IsSource n d) (IsSource n d) bare_source
source_lifts n d = then_lifts preset_lifts (λ preset preset2 e. then_lifts (many_lifts (definition_lifts n)) (λ defs defs2 f. then_lifts (token_lifts k.Fn) (λ c c2 g. then_lifts word_lifts (λ name name2 j.
    then_lifts signature_lifts (λ ps ps2 h. then_lifts (block_lifts n d) (λ xs xs2 i.
    yields_lifts (record { params = preset; defs = defs; name = name; ports = ps; body = xs }) (record { params = preset2; defs = defs2; name = name2; ports = ps2; body = xs2 })
    (ap (λ (v : Ident). let x : Source = record { params = v; defs = map bare_def defs2; name = bare_ident name2; ports = map bare_param ps2; body = map bare_stmt xs2 } in x) e
    ∙ ap (λ (v : List Def). let x : Source = record { params = bare_ident preset; defs = v; name = bare_ident name2; ports = map bare_param ps2; body = map bare_stmt xs2 } in x) f
    ∙ ap (λ (v : Ident). let x : Source = record { params = bare_ident preset; defs = map bare_def defs; name = v; ports = map bare_param ps2; body = map bare_stmt xs2 } in x) j
    ∙ ap (λ (v : List Param). let x : Source = record { params = bare_ident preset; defs = map bare_def defs; name = bare_ident name; ports = v; body = map bare_stmt xs2 } in x) h
    ∙ ap (λ (v : List Stmt). let x : Source = record { params = bare_ident preset; defs = map bare_def defs; name = bare_ident name; ports = map bare_param ps; body = v } in x) i)))))))
