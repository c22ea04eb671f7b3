-- The productions of statements, one by one.
use Rattle.std.proofs.Common.{◌≡◌, ◌∙◌, sym, ap, subst, refl, ℕ, zero, suc, List, [], ◌∷◌, ◌++◌, Bool, true, false, Some, None, Option, append-nil, ◌⊎◌, inl, inr}
use Rattle.heco_lex.specs.declared.place.Place.{Place}
use Rattle.heco_lex.specs.declared.token.TokenKind.{TokenKind}
use Rattle.heco_lex.specs.declared.token.TokenKind.TheVariants as k
use Rattle.heco_syntax.specs.Grammar.{IsSum}
use Rattle.heco_syntax.specs.Limits.{Begins}
use Rattle.heco_syntax.specs.Parts.{place_of, ident_of, num_of, comma, comma_by, set_op, set_op_of, with_place, first_of, first_by}
use Rattle.heco_syntax.specs.Productions.{Spells, IsOne, IsKnown, IsNothing, Then, Many, none, more}
use Rattle.heco_syntax.specs.Sources as g
use Rattle.heco_syntax.specs.declared.first.First.{First}
use Rattle.heco_syntax.specs.declared.first.First.TheVariants as first
use Rattle.heco_syntax.specs.declared.lexeme.Lexeme.{Lexeme}
use Rattle.heco_syntax.specs.declared.tree.Expr.{Expr}
use Rattle.heco_syntax.specs.declared.tree.Expr.TheVariants as e
use Rattle.heco_syntax.specs.declared.tree.Ident.{Ident}
use Rattle.heco_syntax.specs.declared.tree.SetOp.{SetOp}
use Rattle.heco_syntax.specs.declared.tree.SetOp.TheVariants as op
use Rattle.heco_syntax.specs.declared.tree.Stmt.{Stmt}
use Rattle.heco_syntax.specs.declared.tree.Stmt.TheVariants as s
use Rattle.heco_expressions.specs.Reading.{Outcome, Parser, found, nested, is_at, same_kind, signed, behind}
use Rattle.heco_expressions.proofs.Verdicts.{plain, kinds_same}
use Rattle.heco_expressions.proofs.Viable.{some_sum}
use Rattle.heco_expressions.proofs.Steady.{at_steady, nested_steady, gives_steady}
use Rattle.std.specs.Prelude.{if◌then◌else◌}
use Rattle.heco_expressions.proofs.Complete.{Ends, stops_ends, bracket_stops, comma_stops}
use Rattle.heco_statements.specs.Reading as read
use Rattle.heco_statements.proofs.Readers.{Four, four_of, same_four, or_four, Verdict, was_found, was_syntax, was_nested, Answered, answered, too_deep, Kept, kept, Reader, Any, then_reader, then_any, one_reader, done_reader, known_reader, expression_reader, either_reader, one_starts, known_starts, then_starts, one_ends, then_ends, EndsBefore, semi_stops, brace_stops, range_stops}
use Rattle.heco_statements.proofs.Series.{Adds, adds_reader}

module _ {A : Type 0} {p : Parser A} {R : Four A} {F : List Lexeme → Type 0} (reads : Reader p R F) where
  -- less may follow
  pub narrow : (G : List Lexeme → Type 0) → ((rest : List Lexeme) → G rest → F rest) → Reader p R G
  narrow G h = record {
    verdict = reads.verdict;
    fill_cut = reads.fill_cut;
    fill_deep = reads.fill_deep;
    weak_cut = reads.weak_cut;
    weak_deep = reads.weak_deep;
    complete = λ us x i rest f. reads.complete us x i rest (h rest f);
    keeps = λ us x i rest f. reads.keeps us x i rest (h rest f);
    steady = reads.steady;
  }

  begins_by : {P Q : Spells A} {ts : List Lexeme} → ((us : List Lexeme) (x : A) → P us x → Q us x) → Begins P ts → Begins Q ts
  begins_by {ts = ts} h b = record { others = b.others; x = b.x; is = h (ts ++ b.others) b.x b.is }

  -- the same relations in other words
  pub same_reader : (Q : Four A) → ((us : List Lexeme) (x : A) → R.is us x → Q.is us x) → ((us : List Lexeme) (x : A) → Q.is us x → R.is us x) → ((us : List Lexeme) (x : A) → R.cut us x → Q.cut us x)
      → ((us : List Lexeme) (x : A) → Q.cut us x → R.cut us x) → ((us : List Lexeme) (x : A) → R.deep us x → Q.deep us x) → ((us : List Lexeme) (x : A) → Q.wide us x → R.wide us x) → Reader p Q F
  same_reader Q is_to is_from cut_to cut_from deep_to wide_from = record {
    verdict = λ ts. told ts (p ts) (reads.verdict ts);
    fill_cut = begins_by {P = R.cut} {Q = Q.cut} cut_to reads.fill_cut;
    fill_deep = begins_by {P = R.deep} {Q = Q.deep} deep_to reads.fill_deep;
    weak_cut = λ us x i. cut_to us x (reads.weak_cut us x (is_from us x i));
    weak_deep = λ us x i. deep_to us x (reads.weak_deep us x (is_from us x i));
    complete = λ us x i rest f. reads.complete us x (wide_from us x i) rest f;
    keeps = λ us x i rest f. reads.keeps us x (cut_from us x i) rest f;
    steady = reads.steady;
  }
    where
      told : (ts : List Lexeme) (o : Outcome A) → Verdict R ts o → Verdict Q ts o
      told ts o (was_found pre rest x e i) = was_found pre rest x e (is_to pre x i)
      told ts o (was_syntax pre rest e c d) = was_syntax pre rest e (begins_by {P = R.cut} {Q = Q.cut} cut_to c) (begins_by {P = R.deep} {Q = Q.deep} deep_to d)
      told ts o (was_nested pre t rest e c d) = was_nested pre t rest e (begins_by {P = R.cut} {Q = Q.cut} cut_to c) (begins_by {P = R.deep} {Q = Q.deep} deep_to d)

-- one item and more of them, as productions say it
pub listed : {A : Type 0} (Item : Spells A) (x : A) (us : List Lexeme) (all : List A) → Adds (x ∷ []) Item us all → Then (Many Item) (λ xs. IsNothing (x ∷ xs)) us all
listed Item x us all a = record { front = us; x = a.xs; back = []; all = sym (append-nil us); first = a.many; second = record { all = refl; is = a.is } }

pub unlisted : {A : Type 0} (Item : Spells A) (x : A) (us : List Lexeme) (all : List A) → Then (Many Item) (λ xs. IsNothing (x ∷ xs)) us all → Adds (x ∷ []) Item us all
unlisted Item x us all t = record { xs = t.x; is = t.second.is; many = subst (λ v. Many Item v t.x) (sym (t.all ∙ ap (λ v. t.front ++ v) t.second.all ∙ append-nil t.front)) t.first }

pub alone : {A : Type 0} (Item : Spells A) (us : List Lexeme) (all : List A) → Adds [] Item us all → Many Item us all
alone Item us all a = subst (λ v. Many Item us v) (sym a.is) a.many

pub unalone : {A : Type 0} (Item : Spells A) (us : List Lexeme) (all : List A) → Many Item us all → Adds [] Item us all
unalone Item us all m = record { xs = all; is = refl; many = m }

-- what follows a list of values
pub record ListEnds (rest : List Lexeme) : Type 0 where
  pub ends : Ends rest
  pub stop : signed comma rest ≡ None

comma_is : (a : TokenKind) (at place : Place) → comma_by at a ≡ Some place → a ≡ k.Comma
comma_is k.Comma at place h = refl
comma_is a at place h = cc

pub first_comma : {A : Type 0} (Item : Place → Spells A) (us : List Lexeme) (xs : List A) (rest : List Lexeme) (P : List Lexeme → Type 0) → Many (Then (IsKnown comma) Item) us xs → P rest
    → ((t : Lexeme) (others : List Lexeme) → t.kind ≡ k.Comma → P (t ∷ others)) → P (us ++ rest)
first_comma Item us xs rest P none h c = h
first_comma Item us xs rest P (more {ts = ts} {us = vs} i m) h c =
    let e : (ts ++ vs) ++ rest ≡ i.first.t ∷ ((i.back ++ vs) ++ rest) = ap (λ v. (v ++ vs) ++ rest) (i.all ∙ ap (λ v. v ++ i.back) i.first.all) in
    subst P (sym e) (c i.first.t ((i.back ++ vs) ++ rest) (comma_is i.first.t.kind i.first.t.at i.x i.first.is))

commas_end : {A : Type 0} (Item : Place → Spells A) (us : List Lexeme) (xs : List A) (rest : List Lexeme) → Many (Then (IsKnown comma) Item) us xs → Ends rest → Ends (us ++ rest)
commas_end Item us xs rest m h = first_comma Item us xs rest Ends m h (λ t others e. stops_ends k.Comma comma_stops t others e)

listed_end : {A : Type 0} (Item : Place → Spells A) (x : A) (us : List Lexeme) (all : List A) (rest : List Lexeme) → Then (Many (Then (IsKnown comma) Item)) (λ xs. IsNothing (x ∷ xs)) us all → Ends rest → Ends (us ++ rest)
listed_end Item x us all rest t h =
    let e : us ≡ t.front = t.all ∙ ap (λ v. t.front ++ v) t.second.all ∙ append-nil t.front in
    subst (λ v. Ends (v ++ rest)) (sym e) (commas_end Item t.front t.x rest t.first h)

brace_ends : {B : Type 0} (Q : Place → Spells B) (us : List Lexeme) (y : B) (rest : List Lexeme) → Then (IsOne place_of k.CloseBrace) Q us y → ListEnds (us ++ rest)
brace_ends Q us y rest t =
    let e : us ++ rest ≡ t.first.t ∷ (t.back ++ rest) = ap (λ v. v ++ rest) (t.all ∙ ap (λ v. v ++ t.back) t.first.all) in
    record { ends = then_ends (IsOne place_of k.CloseBrace) Q (one_ends place_of k.CloseBrace brace_stops) us y rest t; stop = ap (λ v. signed comma v) e ∙ ap (λ a. behind (t.back ++ rest) (comma_by t.first.t.at a)) t.first.is }

pub length_reader : Reader read.length_in_brackets (same_four g.length_in_brackets) Any
length_reader = then_any (one_reader place_of k.OpenBracket) (λ o. then_any (one_reader num_of k.Number) (λ len. then_any (one_reader place_of k.CloseBracket) (λ c. done_reader len)))

op_no_bracket : (a : TokenKind) (at : Place) (o : SetOp × Place) → with_place at (set_op_of a) ≡ Some o → same_kind a k.OpenBracket ≡ false
op_no_bracket k.Assign at o h = refl
op_no_bracket k.AddAssign at o h = refl
op_no_bracket k.SubAssign at o h = refl
op_no_bracket k.MulAssign at o h = refl
op_no_bracket a at o h = cc

abbrev some_sum_value : Expr
some_sum_value = e.Lit (num_of (plain k.Number))

abbrev pub NoBracket : List Lexeme → Type 0
NoBracket rest = is_at k.OpenBracket rest ≡ false

index_within_reader : (n m : ℕ) → Reader (read.index_within n) (four_of g.index_within n m) Any
index_within_reader n m = then_any (one_reader place_of k.OpenBracket) (λ o. then_reader (expression_reader n m) (λ x. then_any (one_reader place_of k.CloseBracket) (λ c. done_reader (Some x)))
    (λ x us y rest i fol. then_ends (IsOne place_of k.CloseBracket) (λ at. IsNothing (Some x)) (one_ends place_of k.CloseBracket bracket_stops) us y rest i)
    (λ x us y rest i fol. then_ends (IsOne place_of k.CloseBracket) (λ at. IsNothing (Some x)) (one_ends place_of k.CloseBracket bracket_stops) us y rest i))

-- nothing has the widest form
pub barren : {A : Type 0} {p : Parser A} {R : Four A} {F : List Lexeme → Type 0} (W : Spells A) → ((us : List Lexeme) (x : A) → W us x → ⊥) → Reader p R F → Reader p (record { is = R.is; cut = R.cut; deep = R.deep; wide = W }) F
barren {A} {p} {R} W h r = record {
  verdict = λ ts. told ts (p ts) (r.verdict ts);
  fill_cut = r.fill_cut;
  fill_deep = r.fill_deep;
  weak_cut = r.weak_cut;
  weak_deep = r.weak_deep;
  complete = λ us x i rest f. absurd (h us x i);
  keeps = r.keeps;
  steady = r.steady;
}
  where
    told : (ts : List Lexeme) (o : Outcome A) → Verdict R ts o → Verdict (record { is = R.is; cut = R.cut; deep = R.deep; wide = W }) ts o
    told ts o (was_found pre rest x e i) = was_found pre rest x e i
    told ts o (was_syntax pre rest e c d) = was_syntax pre rest e c d
    told ts o (was_nested pre t rest e c d) = was_nested pre t rest e c d

index_reader : (n m : ℕ) → Reader (read.index (suc n)) (four_of g.index (suc n) m) Any
index_reader n zero = barren (g.index 0) (λ us x i. i) (index_within_reader n 0)
index_reader n (suc m) = index_within_reader n m

abbrev Target : ℕ → Spells (Option Expr)
Target l us x = g.index l us x ⊎ g.no_index l us x

index_first : (l : ℕ) (us : List Lexeme) (x : Option Expr) (rest : List Lexeme) → g.index l us x → is_at k.OpenBracket (us ++ rest) ≡ true
index_first zero us x rest i = absurd i
index_first (suc l) us x rest i = then_starts (IsOne place_of k.OpenBracket) _ k.OpenBracket true (one_starts place_of k.OpenBracket k.OpenBracket) us x rest i

nothing_first : (us : List Lexeme) (x : Option Expr) (rest : List Lexeme) → IsNothing None us x → NoBracket rest → is_at k.OpenBracket (us ++ rest) ≡ false
nothing_first us x rest i f = ap (λ v. is_at k.OpenBracket (v ++ rest)) i.all ∙ f

-- no level is left for an index
flat_target : (m : ℕ) → Reader (read.target 0) (four_of Target 0 m) NoBracket
flat_target m = record {
  verdict = told;
  fill_cut = record { others = []; x = None; is = inr (record { all = refl; is = refl }) };
  fill_deep = record { others = []; x = None; is = inr (record { all = refl; is = refl }) };
  weak_cut = λ us x i. i;
  weak_deep = weak;
  complete = complete_by;
  keeps = keeps_by;
  steady = at_steady k.OpenBracket (λ ts. nested ts) (λ ts. found None ts) nested_steady (gives_steady (λ (v : Option Expr). v) None);
}
  where
    bracketed : (t : Lexeme) → t.kind ≡ k.OpenBracket → g.index 1 (t ∷ plain k.Number ∷ plain k.CloseBracket ∷ []) (Some some_sum_value)
    bracketed t h = record {
      front = t ∷ [];
      x = t.at;
      back = plain k.Number ∷ plain k.CloseBracket ∷ [];
      all = refl;
      first = record { t = t; all = refl; is = h; keeps = refl };
      second = record {
        front = plain k.Number ∷ [];
        x = some_sum_value;
        back = plain k.CloseBracket ∷ [];
        all = refl;
        first = some_sum 0;
        second = record { front = plain k.CloseBracket ∷ []; x = place_of (plain k.CloseBracket); back = []; all = refl; first = record { t = plain k.CloseBracket; all = refl; is = refl; keeps = refl }; second = record { all = refl; is = refl } };
      };
    }

    told_by : (t : Lexeme) (ts : List Lexeme) (b : Bool) → same_kind t.kind k.OpenBracket ≡ b → Verdict (four_of Target 0 m) (t ∷ ts) (if b then nested (t ∷ ts) else found None (t ∷ ts))
    told_by t ts true h = was_nested [] t ts refl (record { others = []; x = None; is = inr (record { all = refl; is = refl }) })
        (record { others = plain k.Number ∷ plain k.CloseBracket ∷ []; x = Some some_sum_value; is = inl (bracketed t (kinds_same t.kind k.OpenBracket h)) })
    told_by t ts false h = was_found [] (t ∷ ts) None refl (inr (record { all = refl; is = refl }))

    told : (ts : List Lexeme) → Verdict (four_of Target 0 m) ts (read.target 0 ts)
    told [] = was_found [] [] None refl (inr (record { all = refl; is = refl }))
    told (t ∷ ts) = told_by t ts (same_kind t.kind k.OpenBracket) refl

    weak : (us : List Lexeme) (x : Option Expr) → Target 0 us x → Target 1 us x
    weak us x (inl i) = absurd i
    weak us x (inr i) = inr i

    nothing_found : (us : List Lexeme) (x : Option Expr) (rest : List Lexeme) → IsNothing None us x → NoBracket rest → read.target 0 (us ++ rest) ≡ found x rest
    nothing_found us x rest i f = ap (λ v. read.target 0 (v ++ rest)) i.all ∙ ap (λ (b : Bool). let o : Outcome (Option Expr) = if b then nested rest else found None rest in o) f ∙ ap (λ v. found v rest) (sym i.is)

    complete_by : (us : List Lexeme) (x : Option Expr) → Target m us x → (rest : List Lexeme) → NoBracket rest → Answered (read.target 0 (us ++ rest)) x rest
    complete_by us x (inl i) rest f = too_deep (us ++ rest) (ap (λ (b : Bool). let o : Outcome (Option Expr) = if b then nested (us ++ rest) else found None (us ++ rest) in o) (index_first m us x rest i))
    complete_by us x (inr i) rest f = answered (nothing_found us x rest i f)

    keeps_by : (us : List Lexeme) (x : Option Expr) → Target 0 us x → (rest : List Lexeme) → NoBracket rest → Kept (read.target 0 (us ++ rest)) x rest
    keeps_by us x (inl i) rest f = absurd i
    keeps_by us x (inr i) rest f = kept (nothing_found us x rest i f)

target_reader : (n m : ℕ) → Reader (read.target n) (four_of Target n m) NoBracket
target_reader zero m = flat_target m
target_reader (suc n) m = either_reader k.OpenBracket (narrow (index_reader n m) NoBracket (λ rest f. tt)) (narrow (done_reader None) NoBracket (λ rest f. tt))
    (λ us x rest i f. index_first m us x rest i) (λ us x rest i f. index_first (suc n) us x rest i) (λ us x rest i f. nothing_first us x rest i f) (λ us x rest i f. nothing_first us x rest i f)

-- what follows a statement begins no other branch of it
abbrev NoElse : List Lexeme → Type 0
NoElse rest = is_at k.Else rest ≡ false

-- what follows a body
pub record BodyEnds (rest : List Lexeme) : Type 0 where
  pub stop : signed first_of rest ≡ None
  pub branch : NoElse rest

first_no_else : (t : Lexeme) (a : TokenKind) (f : First) → first_by t a ≡ Some f → same_kind a k.Else ≡ false
first_no_else t k.Int f h = refl
first_no_else t k.Secret f h = refl
first_no_else t k.For f h = refl
first_no_else t k.If f h = refl
first_no_else t k.Word f h = refl
first_no_else t a f h = cc

statements_no_else : {A : Type 0} (Item : First → Spells A) (us : List Lexeme) (xs : List A) (rest : List Lexeme) → Many (Then (IsKnown first_of) Item) us xs → BodyEnds rest → NoElse (us ++ rest)
statements_no_else Item us xs rest none h = h.branch
statements_no_else Item us xs rest (more {ts = ts} {us = vs} i m) h =
    let e : (ts ++ vs) ++ rest ≡ i.first.t ∷ ((i.back ++ vs) ++ rest) = ap (λ v. (v ++ vs) ++ rest) (i.all ∙ ap (λ v. v ++ i.back) i.first.all) in
    ap (is_at k.Else) e ∙ first_no_else i.first.t i.first.t.kind i.x i.first.is

body_closes : {B : Type 0} (Q : Place → Spells B) (us : List Lexeme) (y : B) (rest : List Lexeme) → Then (IsOne place_of k.CloseBrace) Q us y → BodyEnds (us ++ rest)
body_closes Q us y rest t =
    let e : us ++ rest ≡ t.first.t ∷ (t.back ++ rest) = ap (λ v. v ++ rest) (t.all ∙ ap (λ v. v ++ t.back) t.first.all) in
    record {
      stop = ap (λ v. signed first_of v) e ∙ ap (λ a. behind (t.back ++ rest) (first_by t.first.t a)) t.first.is;
      branch = ap (is_at k.Else) e ∙ ap (λ a. same_kind a k.Else) t.first.is;
    }

module _ (n m : ℕ) where
  pub value_reader : Reader (read.value n) (four_of g.value n m) Any
  value_reader = then_reader (expression_reader n m) (λ x. then_any (one_reader place_of k.Semi) (λ at. done_reader x))
      (λ x us y rest i fol. then_ends (IsOne place_of k.Semi) (λ at. IsNothing x) (one_ends place_of k.Semi semi_stops) us y rest i)
      (λ x us y rest i fol. then_ends (IsOne place_of k.Semi) (λ at. IsNothing x) (one_ends place_of k.Semi semi_stops) us y rest i)

  more_values_reader : (x : Expr) → Reader (read.more_values n x) (four_of (λ l. Then (Many (g.after_comma (IsSum l))) (λ xs. IsNothing (x ∷ xs))) n m) ListEnds
  more_values_reader x = same_reader
      (adds_reader comma {item = λ at. read.expression n} {I = λ at. four_of IsSum n m} (λ at. expression_reader n m) ListEnds (λ rest f. f.stop)
      (λ us xs rest i f. commas_end (λ at. IsSum m) us xs rest i f.ends) (λ us xs rest i f. commas_end (λ at. IsSum n) us xs rest i f.ends) (x ∷ []))
      (four_of (λ l. Then (Many (g.after_comma (IsSum l))) (λ xs. IsNothing (x ∷ xs))) n m)
      (listed (g.after_comma (IsSum n)) x) (unlisted (g.after_comma (IsSum n)) x) (listed (g.after_comma (IsSum n)) x) (unlisted (g.after_comma (IsSum n)) x) (listed (g.after_comma (IsSum (suc n))) x) (unlisted (g.after_comma (IsSum m)) x)

  pub values_reader : Reader (read.values n) (four_of g.values n m) ListEnds
  values_reader = then_reader (expression_reader n m) more_values_reader
      (λ x us y rest i f. listed_end (λ at. IsSum m) x us y rest i f.ends) (λ x us y rest i f. listed_end (λ at. IsSum n) x us y rest i f.ends)

  braced_reader : Reader (read.braced_values n) (four_of g.braced_values n m) Any
  braced_reader = then_any (one_reader place_of k.OpenBrace) (λ o. then_reader values_reader (λ xs. then_any (one_reader place_of k.CloseBrace) (λ c. done_reader xs))
      (λ xs us y rest i f. brace_ends (λ c. IsNothing xs) us y rest i) (λ xs us y rest i f. brace_ends (λ c. IsNothing xs) us y rest i))

  int_many_reader : (at : Place) (name : Ident) → Reader (read.int_many n at name) (four_of (λ l. g.int_many l at name) n m) Any
  int_many_reader at name = then_any length_reader (λ len. then_any (one_reader place_of k.Assign) (λ a. then_any braced_reader (λ xs. then_any (one_reader place_of k.Semi) (λ e. done_reader (s.IntMany at name len xs)))))

  int_one_reader : (at : Place) (name : Ident) → Reader (read.int_one n at name) (four_of (λ l. g.int_one l at name) n m) Any
  int_one_reader at name = then_any (one_reader place_of k.Assign) (λ a. then_any value_reader (λ x. done_reader (s.IntOne at name x)))

  bracket_first : {A B : Type 0} (P : Place → Spells A) (Q : A → Spells B) (us : List Lexeme) (y : B) (rest : List Lexeme) → Then (Then (IsOne place_of k.OpenBracket) P) Q us y → is_at k.OpenBracket (us ++ rest) ≡ true
  bracket_first P Q us y rest i = then_starts (Then (IsOne place_of k.OpenBracket) P) Q k.OpenBracket true (then_starts (IsOne place_of k.OpenBracket) P k.OpenBracket true (one_starts place_of k.OpenBracket k.OpenBracket)) us y rest i

  starts_with : {B : Type 0} (kind other : TokenKind) (b : Bool) → same_kind kind other ≡ b → (Q : Place → Spells B) (us : List Lexeme) (y : B) (rest : List Lexeme) → Then (IsOne place_of kind) Q us y → is_at other (us ++ rest) ≡ b
  starts_with kind other b e Q us y rest i = then_starts (IsOne place_of kind) Q other (same_kind kind other) (one_starts place_of kind other) us y rest i ∙ e

  pub int_reader : (at : Place) → Reader (read.int_statement n at) (four_of (λ l. g.int_statement l at) n m) Any
  int_reader at = then_any (one_reader ident_of k.Word) (λ name. either_reader k.OpenBracket (int_many_reader at name) (int_one_reader at name)
      (λ us x rest i f. bracket_first _ _ us x rest i) (λ us x rest i f. bracket_first _ _ us x rest i)
      (λ us x rest i f. starts_with k.Assign k.OpenBracket false refl _ us x rest i) (λ us x rest i f. starts_with k.Assign k.OpenBracket false refl _ us x rest i))

  secret_many_reader : (at : Place) (name : Ident) → Reader (read.secret_many n at name) (four_of (λ l. g.secret_many l at name) n m) Any
  secret_many_reader at name = then_any length_reader (λ len. then_any (one_reader place_of k.Semi) (λ e. done_reader (s.SecretMany at name len)))

  given_reader : Reader (read.given n) (four_of g.given n m) Any
  given_reader = then_any (one_reader place_of k.Assign) (λ a. then_any value_reader (λ x. done_reader (Some x)))

  not_given_reader : Reader (read.not_given n) (four_of g.not_given n m) Any
  not_given_reader = then_any (one_reader place_of k.Semi) (λ e. done_reader None)

  secret_one_reader : (at : Place) (name : Ident) → Reader (read.secret_one n at name) (four_of (λ l. g.secret_one l at name) n m) Any
  secret_one_reader at name = then_any (either_reader k.Assign given_reader not_given_reader
      (λ us x rest i f. starts_with k.Assign k.Assign true refl _ us x rest i) (λ us x rest i f. starts_with k.Assign k.Assign true refl _ us x rest i)
      (λ us x rest i f. starts_with k.Semi k.Assign false refl _ us x rest i) (λ us x rest i f. starts_with k.Semi k.Assign false refl _ us x rest i))
      (λ x. done_reader (s.SecretOne at name x))

  pub secret_reader : (at : Place) → Reader (read.secret_statement n at) (four_of (λ l. g.secret_statement l at) n m) Any
  secret_reader at = then_any (one_reader ident_of k.Word) (λ name. either_reader k.OpenBracket (secret_many_reader at name) (secret_one_reader at name)
      (λ us x rest i f. bracket_first _ _ us x rest i) (λ us x rest i f. bracket_first _ _ us x rest i)
      (λ us x rest i f. secret_first m at name us x rest i) (λ us x rest i f. secret_first n at name us x rest i))
    where
      value_first : (l : ℕ) (us : List Lexeme) (x : Option Expr) (rest : List Lexeme) → (g.given l us x ⊎ g.not_given l us x) → is_at k.OpenBracket (us ++ rest) ≡ false
      value_first l us x rest (inl i) = starts_with k.Assign k.OpenBracket false refl _ us x rest i
      value_first l us x rest (inr i) = starts_with k.Semi k.OpenBracket false refl _ us x rest i

      secret_first : (l : ℕ) (at : Place) (name : Ident) (us : List Lexeme) (x : Stmt) (rest : List Lexeme) → g.secret_one l at name us x → is_at k.OpenBracket (us ++ rest) ≡ false
      secret_first l at name us x rest i = then_starts (λ us x. g.given l us x ⊎ g.not_given l us x) _ k.OpenBracket false (value_first l) us x rest i

  pub assignment_reader : (name : Ident) → Reader (read.assignment n name) (four_of (λ l. g.assignment l name) n m) Any
  assignment_reader name = then_reader (target_reader n m)
      (λ i. then_any (known_reader set_op (plain k.Assign) (op.Put, place_of (plain k.Assign)) refl) (λ o. then_any value_reader (λ x. done_reader (s.Set name i o.0 o.1 x))))
      (λ i us y rest j f. op_first _ us y rest j) (λ i us y rest j f. op_first _ us y rest j)
    where
      op_first : (Q : SetOp × Place → Spells Stmt) (us : List Lexeme) (y : Stmt) (rest : List Lexeme) → Then (IsKnown set_op) Q us y → is_at k.OpenBracket (us ++ rest) ≡ false
      op_first Q us y rest j = then_starts (IsKnown set_op) Q k.OpenBracket false (known_starts set_op k.OpenBracket (λ t o h. op_no_bracket t.kind t.at o h)) us y rest j

  module _ {block : Parser (List Stmt)} {B : Four (List Stmt)} (blocks : Reader block B Any) (ends_wide : EndsBefore B.wide) (ends_cut : EndsBefore B.cut) where
    abbrev pub with_block : ((l : ℕ) → Spells (List Stmt) → Spells Stmt) → Four Stmt
    with_block f = record { is = f n B.is; cut = f n B.cut; deep = f (suc n) B.deep; wide = f m B.wide }

    bounds_reader : Reader (read.bounds n) (four_of g.bounds n m) Ends
    bounds_reader = then_reader (expression_reader n m) (λ low. then_any (one_reader place_of k.Range) (λ r. then_reader (expression_reader n m) (λ high. narrow (done_reader (low, high)) Ends (λ rest f. tt))
        (λ high us y rest j f. subst (λ v. Ends (v ++ rest)) (sym j.all) f) (λ high us y rest j f. subst (λ v. Ends (v ++ rest)) (sym j.all) f)))
        (λ low us y rest j f. then_ends (IsOne place_of k.Range) _ (one_ends place_of k.Range range_stops) us y rest j)
        (λ low us y rest j f. then_ends (IsOne place_of k.Range) _ (one_ends place_of k.Range range_stops) us y rest j)

    loop_reader : (at : Place) → Reader (read.loop n block at) (with_block (λ l b. g.loop l b at)) Any
    loop_reader at = then_any (one_reader ident_of k.Word) (λ name. then_any (one_reader place_of k.In) (λ i.
        then_reader bounds_reader (λ b. then_any blocks (λ body. done_reader (s.Loop at name b.0 b.1 body)))
        (λ b us y rest j f. then_ends B.wide _ ends_wide us y rest j) (λ b us y rest j f. then_ends B.cut _ ends_cut us y rest j)))

    otherwise_reader : Reader (read.maybe_otherwise n block)
        (or_four (record { is = g.otherwise n B.is; cut = g.otherwise n B.cut; deep = g.otherwise (suc n) B.deep; wide = g.otherwise m B.wide }) (same_four (IsNothing None))) NoElse
    otherwise_reader = either_reader k.Else
        (narrow (then_any (one_reader place_of k.Else) (λ at. then_any blocks (λ other. done_reader (Some other)))) NoElse (λ rest f. tt)) (narrow (done_reader None) NoElse (λ rest f. tt))
        (λ us x rest i f. starts_with k.Else k.Else true refl _ us x rest i) (λ us x rest i f. starts_with k.Else k.Else true refl _ us x rest i)
        (λ us x rest i f. ap (λ v. is_at k.Else (v ++ rest)) i.all ∙ f) (λ us x rest i f. ap (λ v. is_at k.Else (v ++ rest)) i.all ∙ f)

    choice_reader : (at : Place) → Reader (read.choice n block at) (with_block (λ l b. g.choice l b at)) NoElse
    choice_reader at = then_reader (expression_reader n m)
        (λ test. then_any blocks (λ body. then_reader otherwise_reader (λ other. narrow (done_reader (s.Choice at test body other)) NoElse (λ rest f. tt))
        (λ other us y rest j f. subst (λ v. NoElse (v ++ rest)) (sym j.all) f) (λ other us y rest j f. subst (λ v. NoElse (v ++ rest)) (sym j.all) f)))
        (λ test us y rest j f. then_ends B.wide _ ends_wide us y rest j) (λ test us y rest j f. then_ends B.cut _ ends_cut us y rest j)

    statement_reader : (f : First) → Reader (read.statement_from n block f) (with_block (λ l b. g.statement_from l b f)) NoElse
    statement_reader (first.Int at) = narrow (int_reader at) NoElse (λ rest f. tt)
    statement_reader (first.Secret at) = narrow (secret_reader at) NoElse (λ rest f. tt)
    statement_reader (first.For at) = narrow (loop_reader at) NoElse (λ rest f. tt)
    statement_reader (first.If at) = choice_reader at
    statement_reader (first.Name name) = narrow (assignment_reader name) NoElse (λ rest f. tt)

    body_reader : Reader (read.body n block) (record { is = Many (g.statement n B.is); cut = Many (g.statement n B.cut); deep = Many (g.statement (suc n) B.deep); wide = Many (g.statement m B.wide) }) BodyEnds
    body_reader = same_reader
        (adds_reader first_of {item = read.statement_from n block} {I = λ f. with_block (λ l b. g.statement_from l b f)} statement_reader BodyEnds (λ rest f. f.stop)
        (λ us xs rest i f. statements_no_else (λ f. g.statement_from m B.wide f) us xs rest i f) (λ us xs rest i f. statements_no_else (λ f. g.statement_from n B.cut f) us xs rest i f) [])
        (record { is = Many (g.statement n B.is); cut = Many (g.statement n B.cut); deep = Many (g.statement (suc n) B.deep); wide = Many (g.statement m B.wide) })
        (alone (g.statement n B.is)) (unalone (g.statement n B.is)) (alone (g.statement n B.cut)) (unalone (g.statement n B.cut)) (alone (g.statement (suc n) B.deep)) (unalone (g.statement m B.wide))

    pub braces_reader : Reader (read.braces n block) (record { is = g.braces n B.is; cut = g.braces n B.cut; deep = g.braces (suc n) B.deep; wide = g.braces m B.wide }) Any
    braces_reader = then_any (one_reader place_of k.OpenBrace) (λ o. then_reader body_reader (λ xs. then_any (one_reader place_of k.CloseBrace) (λ c. done_reader xs))
        (λ xs us y rest i f. body_closes _ us y rest i) (λ xs us y rest i f. body_closes _ us y rest i))
