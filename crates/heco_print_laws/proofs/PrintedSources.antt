-- What statements and sources are printed as spells them, with as many levels and blocks.
use Rattle.std.proofs.Common.{◌≡◌, ◌∙◌, sym, ap, subst, refl, ℕ, zero, suc, List, [], ◌∷◌, ◌++◌, Bool, true, false, Some, None, Option, append_assoc, append-nil, ◌⊎◌, inl, inr, ◌^◌, ◌<◌}
use Rattle.std.specs.List.{flat_map}
use Rattle.std.specs.Prelude.{if◌then◌else◌}
use Rattle.heco_lex.specs.Kinds.{kind_of}
use Rattle.heco_lex.specs.declared.place.Place.{Place}
use Rattle.heco_lex.specs.declared.token.TokenKind.{TokenKind}
use Rattle.heco_lex.specs.declared.token.TokenKind.TheVariants as k
use Rattle.heco_print.proofs.Loops.{spelled_loop, spelled_if, spelled_either}
use Rattle.heco_print.specs.Spelling.{mark, mark_at, word_of, digits_of, separated, parens, expression}
use Rattle.heco_print.specs.Statements.{spelled_source, spelled_stmt, stmt_step}
use Rattle.heco_print.specs.Statements as spec
use Rattle.heco_syntax.specs.Parts.{place_of, ident_of, def_sign, set_op, direction, first_of, first_by}
use Rattle.heco_syntax.specs.Productions.{Spells, IsOne, IsNothing, Then, Many, none, more}
use Rattle.heco_syntax.specs.Sources.{IsSource, IsBlock, block_or}
use Rattle.heco_syntax.specs.Sources as g
use Rattle.heco_syntax.specs.declared.first.First.{First}
use Rattle.heco_syntax.specs.declared.first.First.TheVariants as first
use Rattle.heco_syntax.specs.declared.lexeme.Lexeme.{Lexeme}
use Rattle.heco_syntax.specs.declared.tree.Expr.{Expr}
use Rattle.heco_syntax.specs.declared.tree.Ident.{Ident}
use Rattle.heco_syntax.specs.declared.tree.Num.{Num}
use Rattle.heco_syntax.specs.declared.tree.Param.{Param}
use Rattle.heco_syntax.specs.declared.tree.SetOp.{SetOp}
use Rattle.heco_syntax.specs.declared.tree.SetOp.TheVariants as op
use Rattle.heco_syntax.specs.declared.tree.Stmt.{Stmt, fold-roll-Stmt}
use Rattle.heco_syntax.specs.declared.tree.Stmt.TheOpen.{Stmt-F}
use Rattle.heco_syntax.specs.declared.tree.Stmt.TheVariants as s
use Rattle.heco_print_laws.proofs.Fitting.{Each, front_each, back_each, both_each, Fits, IsPlain, plain_word, plain_number}
use Rattle.heco_print_laws.proofs.PlainExpressions.{sum_plain}
use Rattle.heco_print_laws.proofs.PrintedExpressions.{printed}

-- tokens that, behind those before, are what is printed of it, and spell it
pub record Printed {A : Type 0} (pre : List Lexeme) (Is : Spells A) (f : A → List Lexeme) (x : A) : Type 0 where
  pub tokens : List Lexeme
  pub all : pre ++ tokens ≡ f x
  pub plain : Each IsPlain tokens
  pub is : Is tokens x

pub record Prints {A : Type 0} (pre : List Lexeme) (Is : Spells A) (f : A → List Lexeme) : Type 0 where
  pub prints : (ts : List Lexeme) (x : A) → Each Fits ts → Is ts x → Printed pre Is f x

then_prints : {A B : Type 0} {pre : List Lexeme} {P : Spells A} {Q : A → Spells B} {f : A → List Lexeme} {h : B → List Lexeme} → Prints [] P f → ((x : A) → Prints (pre ++ f x) (Q x) h) → Prints pre (Then P Q) h
then_prints {pre = pre} {h = h} p q = record {
  prints = λ ts y fits i.
      let both = subst (Each Fits) i.all fits in
      let a = p.prints i.front i.x (front_each Fits i.front i.back both) i.first in
      let b = (q i.x).prints i.back y (back_each Fits i.front i.back both) i.second in
      record {
        tokens = a.tokens ++ b.tokens;
        all = sym (append_assoc pre a.tokens b.tokens) ∙ ap (λ v. (pre ++ v) ++ b.tokens) a.all ∙ b.all;
        plain = both_each IsPlain a.tokens b.tokens a.plain b.plain;
        is = record { front = a.tokens; x = i.x; back = b.tokens; all = refl; first = a.is; second = b.is };
      };
}

-- a token of which the tree keeps nothing
mark_prints : {B : Type 0} {pre : List Lexeme} {R : Spells B} {h : B → List Lexeme} (kind : TokenKind) → IsPlain (mark kind) → Prints (pre ++ mark kind ∷ []) R h → Prints pre (Then (IsOne place_of kind) (λ at. R)) h
mark_prints {pre = pre} kind plain r = record {
  prints = λ ts y fits i.
      let b = r.prints i.back y (back_each Fits i.front i.back (subst (Each Fits) i.all fits)) i.second in
      record {
        tokens = mark kind ∷ b.tokens;
        all = sym (append_assoc pre (mark kind ∷ []) b.tokens) ∙ b.all;
        plain = (plain, b.plain);
        is = record { front = mark kind ∷ []; x = (mark kind).at; back = b.tokens; all = refl; first = record { t = mark kind; all = refl; is = refl; keeps = refl }; second = b.is };
      };
}

after_prints : {A : Type 0} {P : Spells A} {f : A → List Lexeme} → Prints [] P f → Prints [] (g.after_comma P) (λ x. mark k.Comma ∷ f x)
after_prints p = record {
  prints = λ ts y fits i.
      let b = p.prints i.back y (back_each Fits i.front i.back (subst (Each Fits) i.all fits)) i.second in
      record {
        tokens = mark k.Comma ∷ b.tokens;
        all = ap (λ v. mark k.Comma ∷ v) b.all;
        plain = (record { fits = refl; text = refl; value = refl }, b.plain);
        is = record { front = mark k.Comma ∷ []; x = (mark k.Comma).at; back = b.tokens; all = refl; first = record { t = mark k.Comma; all = refl; is = refl }; second = b.is };
      };
}

yields_prints : {A : Type 0} {pre : List Lexeme} {f : A → List Lexeme} (x : A) → pre ≡ f x → Prints pre (IsNothing x) f
yields_prints {pre = pre} {f = f} x e = record { prints = λ ts y fits i. record { tokens = []; all = append-nil pre ∙ e ∙ ap f (sym i.is); plain = tt; is = record { all = refl; is = i.is } } }

or_prints : {A : Type 0} {pre : List Lexeme} {P Q : Spells A} {f : A → List Lexeme} → Prints pre P f → Prints pre Q f → Prints pre (λ ts x. P ts x ⊎ Q ts x) f
or_prints {pre = pre} {P = P} {Q = Q} {f = f} p q = record { prints = λ ts x fits i. by ts x fits i }
  where
    by : (ts : List Lexeme) (x : _) → Each Fits ts → P ts x ⊎ Q ts x → Printed pre (λ us y. P us y ⊎ Q us y) f x
    by ts x fits (inl i) = let a = p.prints ts x fits i in record { tokens = a.tokens; all = a.all; plain = a.plain; is = inl a.is }
    by ts x fits (inr i) = let a = q.prints ts x fits i in record { tokens = a.tokens; all = a.all; plain = a.plain; is = inr a.is }

all_printed : {A : Type 0} {P : Spells A} {f : A → List Lexeme} → Prints [] P f → {ts : List Lexeme} {xs : List A} → Each Fits ts → Many P ts xs → Printed [] (Many P) (flat_map f) xs
all_printed p fits none = record { tokens = []; all = refl; plain = tt; is = none }
all_printed {f = f} p fits (more {ts = ts} {us = us} {x = x} {xs = xs} i m) =
    let a = p.prints ts x (front_each Fits ts us fits) i in
    let b = all_printed p (back_each Fits ts us fits) m in
    record { tokens = a.tokens ++ b.tokens; all = ap (λ v. v ++ b.tokens) a.all ∙ ap (λ v. f x ++ v) b.all; plain = both_each IsPlain a.tokens b.tokens a.plain b.plain; is = more a.is b.is }

many_prints : {A : Type 0} {P : Spells A} {f : A → List Lexeme} → Prints [] P f → Prints [] (Many P) (flat_map f)
many_prints p = record { prints = λ ts xs fits m. all_printed p fits m }

abbrev word_tokens : Ident → List Lexeme
word_tokens id = word_of id ∷ []

word_prints : Prints [] g.word word_tokens
word_prints = record {
  prints = λ ts x fits i. record {
    tokens = word_of x ∷ [];
    all = refl;
    plain = (plain_word x (ap (λ (v : Ident). kind_of v.text) i.keeps ∙ (subst (Each Fits) i.all fits).0.word i.is), tt);
    is = record { t = word_of x; all = refl; is = refl; keeps = refl };
  };
}

abbrev number_tokens : Num → List Lexeme
number_tokens n = digits_of n ∷ []

number_prints : Prints [] g.number number_tokens
number_prints = record {
  prints = λ ts x fits i. record {
    tokens = digits_of x ∷ [];
    all = refl;
    plain = (plain_number x (subst (λ (v : Num). v.value < 10 ^ 10) (sym i.keeps) ((subst (Each Fits) i.all fits).0.number i.is)), tt);
    is = record { t = digits_of x; all = refl; is = refl; keeps = refl };
  };
}

expression_prints : (n : ℕ) → Prints [] (g.expression n) expression
expression_prints n = record { prints = λ ts x fits i. record { tokens = expression x; all = refl; plain = sum_plain i fits; is = printed n ts x i } }

abbrev direction_tokens : Bool → List Lexeme
direction_tokens b = mark (if b then k.Out else k.In) ∷ []

direction_prints : Prints [] (g.known direction) direction_tokens
direction_prints = record { prints = λ ts x fits i. by x }
  where
    by : (b : Bool) → Printed [] (g.known direction) direction_tokens b
    by true = record { tokens = mark k.Out ∷ []; all = refl; plain = (record { fits = refl; text = refl; value = refl }, tt); is = record { t = mark k.Out; all = refl; is = refl } }
    by false = record { tokens = mark k.In ∷ []; all = refl; plain = (record { fits = refl; text = refl; value = refl }, tt); is = record { t = mark k.In; all = refl; is = refl } }

abbrev op_tokens : SetOp × Place → List Lexeme
op_tokens o = mark_at (spec.set_kind o.0) o.1 ∷ []

op_prints : Prints [] (g.known set_op) op_tokens
op_prints = record { prints = λ ts x fits i. by x.0 x.1 }
  where
    by : (o : SetOp) (at : Place) → Printed [] (g.known set_op) op_tokens (o, at)
    by op.Put at = record { tokens = mark_at k.Assign at ∷ []; all = refl; plain = (record { fits = refl; text = refl; value = refl }, tt); is = record { t = mark_at k.Assign at; all = refl; is = refl } }
    by op.Add at = record { tokens = mark_at k.AddAssign at ∷ []; all = refl; plain = (record { fits = refl; text = refl; value = refl }, tt); is = record { t = mark_at k.AddAssign at; all = refl; is = refl } }
    by op.Sub at = record { tokens = mark_at k.SubAssign at ∷ []; all = refl; plain = (record { fits = refl; text = refl; value = refl }, tt); is = record { t = mark_at k.SubAssign at; all = refl; is = refl } }
    by op.Mul at = record { tokens = mark_at k.MulAssign at ∷ []; all = refl; plain = (record { fits = refl; text = refl; value = refl }, tt); is = record { t = mark_at k.MulAssign at; all = refl; is = refl } }

-- the first token of a statement
abbrev first_tokens : First → List Lexeme
first_tokens (first.Int at) = mark_at k.Int at ∷ []
first_tokens (first.Secret at) = mark_at k.Secret at ∷ []
first_tokens (first.For at) = mark_at k.For at ∷ []
first_tokens (first.If at) = mark_at k.If at ∷ []
first_tokens (first.Name name) = word_of name ∷ []

first_prints : Prints [] (g.known first_of) first_tokens
first_prints = record { prints = λ ts x fits i. by i.t (subst (Each Fits) i.all fits).0 i.t.kind refl x i.is }
  where
    by : (t : Lexeme) → Fits t → (a : TokenKind) → t.kind ≡ a → (x : First) → first_by t a ≡ Some x → Printed [] (g.known first_of) first_tokens x
    by t f a e (first.Int at) h = record { tokens = mark_at k.Int at ∷ []; all = refl; plain = (record { fits = refl; text = refl; value = refl }, tt); is = record { t = mark_at k.Int at; all = refl; is = refl } }
    by t f a e (first.Secret at) h = record { tokens = mark_at k.Secret at ∷ []; all = refl; plain = (record { fits = refl; text = refl; value = refl }, tt); is = record { t = mark_at k.Secret at; all = refl; is = refl } }
    by t f a e (first.For at) h = record { tokens = mark_at k.For at ∷ []; all = refl; plain = (record { fits = refl; text = refl; value = refl }, tt); is = record { t = mark_at k.For at; all = refl; is = refl } }
    by t f a e (first.If at) h = record { tokens = mark_at k.If at ∷ []; all = refl; plain = (record { fits = refl; text = refl; value = refl }, tt); is = record { t = mark_at k.If at; all = refl; is = refl } }
    by t f k.Word e (first.Name name) h = record {
      tokens = word_of name ∷ [];
      all = refl;
      plain = (plain_word name (let p : first.Name (ident_of t) ≡ first.Name name = cc in let q : ident_of t ≡ name = cc in subst (λ (v : Ident). kind_of v.text ≡ Some k.Word) q (f.word e)), tt);
      is = record { t = word_of name; all = refl; is = refl };
    }
    by t f a e (first.Name name) h = cc

length_prints : Prints [] g.length_in_brackets spec.brackets
length_prints = mark_prints k.OpenBracket (record { fits = refl; text = refl; value = refl }) (then_prints number_prints (λ len. mark_prints k.CloseBracket (record { fits = refl; text = refl; value = refl }) (yields_prints len refl)))

index_prints : (n : ℕ) → Prints [] (g.index n) spec.target
index_prints zero = record { prints = λ ts x fits i. absurd i }
index_prints (suc n) = mark_prints k.OpenBracket (record { fits = refl; text = refl; value = refl }) (then_prints (expression_prints n) (λ x. mark_prints k.CloseBracket (record { fits = refl; text = refl; value = refl }) (yields_prints (Some x) refl)))

spelled_int_one : (at : Place) (name : Ident) (x : Expr) → spelled_stmt (s.IntOne at name x) ≡ spec.int_one at name x
spelled_int_one at name x = ap spelled_stmt (sym (s.rolls-IntOne at name x)) ∙ fold-roll-Stmt (List Lexeme) stmt_step (Stmt-F.IntOne at name x)

spelled_int_many : (at : Place) (name : Ident) (len : Num) (xs : List Expr) → spelled_stmt (s.IntMany at name len xs) ≡ spec.int_many at name len xs
spelled_int_many at name len xs = ap spelled_stmt (sym (s.rolls-IntMany at name len xs)) ∙ fold-roll-Stmt (List Lexeme) stmt_step (Stmt-F.IntMany at name len xs)

spelled_secret_one : (at : Place) (name : Ident) (x : Option Expr) → spelled_stmt (s.SecretOne at name x) ≡ spec.secret_one at name x
spelled_secret_one at name x = ap spelled_stmt (sym (s.rolls-SecretOne at name x)) ∙ fold-roll-Stmt (List Lexeme) stmt_step (Stmt-F.SecretOne at name x)

spelled_secret_many : (at : Place) (name : Ident) (len : Num) → spelled_stmt (s.SecretMany at name len) ≡ spec.secret_many at name len
spelled_secret_many at name len = ap spelled_stmt (sym (s.rolls-SecretMany at name len)) ∙ fold-roll-Stmt (List Lexeme) stmt_step (Stmt-F.SecretMany at name len)

spelled_set : (name : Ident) (i : Option Expr) (o : SetOp) (at : Place) (x : Expr) → spelled_stmt (s.Set name i o at x) ≡ spec.assignment name i o at x
spelled_set name i o at x = ap spelled_stmt (sym (s.rolls-Set name i o at x)) ∙ fold-roll-Stmt (List Lexeme) stmt_step (Stmt-F.Set name i o at x)

-- the second block of a choice, where there is one
abbrev other_tokens : Option (List Stmt) → List Lexeme
other_tokens None = []
other_tokens (Some other) = spec.otherwise (flat_map spelled_stmt other)

spelled_choice : (at : Place) (test : Expr) (body : List Stmt) (other : Option (List Stmt)) → spelled_stmt (s.Choice at test body other) ≡ spec.choice at test (flat_map spelled_stmt body) (other_tokens other)
spelled_choice at test body None = spelled_if at test body
spelled_choice at test body (Some other) = spelled_either at test body other

module _ (n : ℕ) where
  abbrev value_tokens : Expr → List Lexeme
  value_tokens x = expression x ++ mark k.Semi ∷ []

  value_prints : Prints [] (g.value n) value_tokens
  value_prints = then_prints (expression_prints n) (λ x. mark_prints k.Semi (record { fits = refl; text = refl; value = refl }) (yields_prints x refl))

  values_prints : Prints [] (g.values n) (separated expression)
  values_prints = then_prints (expression_prints n) (λ x. then_prints (many_prints (after_prints (expression_prints n))) (λ xs. yields_prints (x ∷ xs) refl))

  abbrev braced_tokens : List Expr → List Lexeme
  braced_tokens xs = spec.braces (separated expression xs)

  braced_prints : Prints [] (g.braced_values n) braced_tokens
  braced_prints = mark_prints k.OpenBrace (record { fits = refl; text = refl; value = refl }) (then_prints values_prints (λ xs. mark_prints k.CloseBrace (record { fits = refl; text = refl; value = refl }) (yields_prints xs refl)))

  int_many_prints : (at : Place) (name : Ident) → Prints (mark_at k.Int at ∷ word_of name ∷ []) (g.int_many n at name) spelled_stmt
  int_many_prints at name = then_prints length_prints (λ len. mark_prints k.Assign (record { fits = refl; text = refl; value = refl }) (then_prints braced_prints (λ xs. mark_prints k.Semi (record { fits = refl; text = refl; value = refl })
      (yields_prints (s.IntMany at name len xs) (sym (spelled_int_many at name len xs))))))

  int_one_prints : (at : Place) (name : Ident) → Prints (mark_at k.Int at ∷ word_of name ∷ []) (g.int_one n at name) spelled_stmt
  int_one_prints at name = mark_prints k.Assign (record { fits = refl; text = refl; value = refl }) (then_prints value_prints (λ x. yields_prints (s.IntOne at name x) (sym (spelled_int_one at name x))))

  secret_many_prints : (at : Place) (name : Ident) → Prints (mark_at k.Secret at ∷ word_of name ∷ []) (g.secret_many n at name) spelled_stmt
  secret_many_prints at name = then_prints length_prints (λ len. mark_prints k.Semi (record { fits = refl; text = refl; value = refl }) (yields_prints (s.SecretMany at name len) (sym (spelled_secret_many at name len))))

  abbrev given_tokens : Option Expr → List Lexeme
  given_tokens x = spec.given x ++ mark k.Semi ∷ []

  given_prints : Prints [] (g.given n) given_tokens
  given_prints = mark_prints k.Assign (record { fits = refl; text = refl; value = refl }) (then_prints value_prints (λ x. yields_prints (Some x) refl))

  not_given_prints : Prints [] (g.not_given n) given_tokens
  not_given_prints = mark_prints k.Semi (record { fits = refl; text = refl; value = refl }) (yields_prints None refl)

  secret_one_prints : (at : Place) (name : Ident) → Prints (mark_at k.Secret at ∷ word_of name ∷ []) (g.secret_one n at name) spelled_stmt
  secret_one_prints at name = then_prints (or_prints given_prints not_given_prints) (λ x. yields_prints (s.SecretOne at name x) (sym (spelled_secret_one at name x)))

  target_prints : Prints [] (λ ts x. g.index n ts x ⊎ g.no_index n ts x) spec.target
  target_prints = or_prints (index_prints n) (yields_prints None refl)

  assignment_prints : (name : Ident) → Prints (word_of name ∷ []) (g.assignment n name) spelled_stmt
  assignment_prints name = then_prints target_prints (λ i. then_prints op_prints (λ o. then_prints value_prints (λ x. yields_prints (s.Set name i o.0 o.1 x)
      (ap (λ v. word_of name ∷ v) (append_assoc (spec.target i) (op_tokens o) (value_tokens x)) ∙ sym (spelled_set name i o.0 o.1 x)))))

  int_prints : (at : Place) → Prints (mark_at k.Int at ∷ []) (g.int_statement n at) spelled_stmt
  int_prints at = then_prints word_prints (λ name. or_prints (int_many_prints at name) (int_one_prints at name))

  secret_prints : (at : Place) → Prints (mark_at k.Secret at ∷ []) (g.secret_statement n at) spelled_stmt
  secret_prints at = then_prints word_prints (λ name. or_prints (secret_many_prints at name) (secret_one_prints at name))

  abbrev bounds_tokens : Expr × Expr → List Lexeme
  bounds_tokens b = expression b.0 ++ (mark k.Range ∷ expression b.1)

  bounds_prints : Prints [] (g.bounds n) bounds_tokens
  bounds_prints = then_prints (expression_prints n) (λ low. mark_prints k.Range (record { fits = refl; text = refl; value = refl }) (then_prints (expression_prints n) (λ high.
      yields_prints (low, high) (append_assoc (expression low) (mark k.Range ∷ []) (expression high)))))

  module _ {block : Spells (List Stmt)} (block_prints : Prints [] block spec.block) where
    loop_prints : (at : Place) → Prints (mark_at k.For at ∷ []) (g.loop n block at) spelled_stmt
    loop_prints at = then_prints word_prints (λ name. mark_prints k.In (record { fits = refl; text = refl; value = refl }) (then_prints bounds_prints (λ b. then_prints block_prints (λ body.
        yields_prints (s.Loop at name b.0 b.1 body) (sym (spelled_loop at name b.0 b.1 body))))))

    other_prints : Prints [] (λ ts x. g.otherwise n block ts x ⊎ g.no_otherwise n block ts x) other_tokens
    other_prints = or_prints (mark_prints k.Else (record { fits = refl; text = refl; value = refl }) (then_prints block_prints (λ other. yields_prints (Some other) refl))) (yields_prints None refl)

    choice_prints : (at : Place) → Prints (mark_at k.If at ∷ []) (g.choice n block at) spelled_stmt
    choice_prints at = then_prints (expression_prints n) (λ test. then_prints block_prints (λ body. then_prints other_prints (λ other. yields_prints (s.Choice at test body other)
        (append_assoc (spec.choice_head at test) (spec.block body) (other_tokens other) ∙ sym (spelled_choice at test body other)))))

    rest_prints : (f : First) → Prints (first_tokens f) (g.statement_from n block f) spelled_stmt
    rest_prints (first.Int at) = int_prints at
    rest_prints (first.Secret at) = secret_prints at
    rest_prints (first.For at) = loop_prints at
    rest_prints (first.If at) = choice_prints at
    rest_prints (first.Name name) = assignment_prints name

    statement_prints : Prints [] (g.statement n block) spelled_stmt
    statement_prints = then_prints first_prints rest_prints

    braces_prints : Prints [] (g.braces n block) spec.block
    braces_prints = mark_prints k.OpenBrace (record { fits = refl; text = refl; value = refl }) (then_prints (many_prints statement_prints) (λ xs. mark_prints k.CloseBrace (record { fits = refl; text = refl; value = refl }) (yields_prints xs refl)))

block_prints : (n d : ℕ) → Prints [] (IsBlock n d) spec.block
unfolding block_or
block_prints n zero = record { prints = λ ts x fits i. absurd i }
block_prints n (suc d) = braces_prints n (block_prints n d)

param_prints : Prints [] g.param spec.param
param_prints = then_prints direction_prints (λ out. then_prints word_prints (λ name. then_prints (or_prints given (yields_prints None refl)) (λ l. yields_prints (record { output = out; name = name; len = l }) refl)))
  where
    given : Prints [] g.length_given spec.length_given
    given = then_prints length_prints (λ len. yields_prints (Some len) refl)

preset_prints : Prints [] g.preset_line spec.preset_line
preset_prints = mark_prints k.Params (record { fits = refl; text = refl; value = refl }) (then_prints word_prints (λ preset. mark_prints k.Semi (record { fits = refl; text = refl; value = refl }) (yields_prints preset refl)))

abbrev def_tokens : Place → List Lexeme
def_tokens at = mark_at k.Def at ∷ []

def_prints : Prints [] (g.known def_sign) def_tokens
def_prints = record { prints = λ ts at fits i. record { tokens = mark_at k.Def at ∷ []; all = refl; plain = (record { fits = refl; text = refl; value = refl }, tt); is = record { t = mark_at k.Def at; all = refl; is = refl } } }

abbrev params_tokens : List Ident → List Lexeme
params_tokens xs = parens (spec.words xs)

params_prints : Prints [] g.params params_tokens
params_prints = mark_prints k.Open (record { fits = refl; text = refl; value = refl }) (then_prints (or_prints (yields_prints [] refl) some) (λ xs. mark_prints k.Close (record { fits = refl; text = refl; value = refl }) (yields_prints xs refl)))
  where
    some : Prints [] g.some_words spec.words
    some = then_prints word_prints (λ x. then_prints (many_prints (after_prints word_prints)) (λ xs. yields_prints (x ∷ xs) refl))

definition_prints : (n : ℕ) → Prints [] (g.definition n) spec.definition
definition_prints n = then_prints def_prints (λ at. then_prints word_prints (λ name. then_prints params_prints (λ xs. mark_prints k.Assign (record { fits = refl; text = refl; value = refl }) (then_prints (value_prints n) (λ x.
    yields_prints (record { at = at; name = name; params = xs; value = x })
    (ap (λ v. mark_at k.Def at ∷ word_of name ∷ v) (append_assoc (params_tokens xs) (mark k.Assign ∷ []) (expression x ++ mark k.Semi ∷ []))))))))

abbrev signature_tokens : List Param → List Lexeme
signature_tokens ps = mark k.Open ∷ (separated spec.param ps ++ mark k.Close ∷ [])

signature_prints : Prints [] g.signature signature_tokens
signature_prints = mark_prints k.Open (record { fits = refl; text = refl; value = refl }) (then_prints (or_prints (yields_prints [] refl) some) (λ ps. mark_prints k.Close (record { fits = refl; text = refl; value = refl }) (yields_prints ps refl)))
  where
    some : Prints [] g.some_params (separated spec.param)
    some = then_prints param_prints (λ p. then_prints (many_prints (after_prints param_prints)) (λ ps. yields_prints (p ∷ ps) refl))

pub source_prints : (n d : ℕ) → Prints [] (IsSource n d) spelled_source
source_prints n d = then_prints preset_prints (λ preset. then_prints (many_prints (definition_prints n)) (λ defs. mark_prints k.Fn (record { fits = refl; text = refl; value = refl }) (then_prints word_prints (λ name.
    then_prints signature_prints (λ ps. then_prints (block_prints n d) (λ xs.
    yields_prints (record { params = preset; defs = defs; name = name; ports = ps; body = xs }) (ap (λ v. spec.preset_line preset ++ v) (rejoined (flat_map spec.definition defs) name ps (spec.block xs)))))))))
  where
    rejoined : (ds : List Lexeme) (name : Ident) (ps : List Param) (body : List Lexeme)
        → (((ds ++ mark k.Fn ∷ []) ++ word_of name ∷ []) ++ signature_tokens ps) ++ body ≡ ds ++ (spec.name_line name ++ (separated spec.param ps ++ (mark k.Close ∷ body)))
    rejoined ds name ps body =
        ap (λ v. (v ++ signature_tokens ps) ++ body) (append_assoc ds (mark k.Fn ∷ []) (word_of name ∷ []))
        ∙ ap (λ v. v ++ body) (append_assoc ds (mark k.Fn ∷ word_of name ∷ []) (signature_tokens ps))
        ∙ append_assoc ds (mark k.Fn ∷ word_of name ∷ signature_tokens ps) body
        ∙ ap (λ v. ds ++ (mark k.Fn ∷ word_of name ∷ mark k.Open ∷ v)) (append_assoc (separated spec.param ps) (mark k.Close ∷ []) body)
