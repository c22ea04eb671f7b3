-- Readers with all that is known of them, and how one behind another is known.
use Rattle.std.proofs.Common.{◌≡◌, ◌∙◌, sym, ap, subst, refl, ℕ, suc, ◌≤◌, List, [], ◌∷◌, ◌++◌, Bool, true, false, Some, None, Option, append_assoc, arith, ◌⊎◌, inl, inr, length}
use Rattle.std.specs.Prelude.{if◌then◌else◌}
use Rattle.heco_lex.specs.declared.token.TokenKind.{TokenKind}
use Rattle.heco_lex.specs.declared.token.TokenKind.TheVariants as k
use Rattle.heco_syntax.specs.Grammar.{IsSum}
use Rattle.heco_syntax.specs.Limits.{Begins}
use Rattle.heco_syntax.specs.Productions.{Spells, IsOne, IsKnown, IsNothing, Then}
use Rattle.heco_syntax.specs.declared.lexeme.Lexeme.{Lexeme}
use Rattle.heco_syntax.specs.declared.tree.Expr.{Expr}
use Rattle.heco_expressions.specs.Reading.{Outcome, Parser, found, syntax, nested, and_then, take_one, is_at, same_kind, pick, picked}
use Rattle.heco_expressions.specs.Reading as read
use Rattle.heco_expressions.proofs.Verdicts.{plain, kinds_same}
use Rattle.heco_expressions.proofs.Verdicts as expressions
use Rattle.heco_expressions.proofs.Weaken.{weaken_sum}
use Rattle.heco_expressions.proofs.Viable.{sum_verdict, factor_verdict, some_sum}
use Rattle.heco_expressions.proofs.Complete.{Answers, complete_sum, Ends, Stops, stops_ends, takes}
use Rattle.heco_expressions.proofs.Complete as complete
use Rattle.heco_expressions.proofs.Steady.{Steady, Agree, Follows, left, here, there, both_found, both_syntax, past, at_steady, then_steady, one_steady, gives_steady, sum_steady, factor_steady}
use Rattle.heco_statements.specs.Reading.{done, either}

-- one production four times: within the limits; with cuts; one level and one block deeper; with limits of any size
pub record Four (A : Type 0) : Type 1 where
  pub is : List Lexeme → A → Type 0
  pub cut : List Lexeme → A → Type 0
  pub deep : List Lexeme → A → Type 0
  pub wide : List Lexeme → A → Type 0

abbrev pub four_of : {A : Type 0} → (ℕ → Spells A) → ℕ → ℕ → Four A
four_of g n m = record { is = g n; cut = g n; deep = g (suc n); wide = g m }

abbrev pub same_four : {A : Type 0} → Spells A → Four A
same_four g = record { is = g; cut = g; deep = g; wide = g }

abbrev pub then_four : {A B : Type 0} → Four A → (A → Four B) → Four B
then_four P Q = record { is = Then P.is (λ x. (Q x).is); cut = Then P.cut (λ x. (Q x).cut); deep = Then P.deep (λ x. (Q x).deep); wide = Then P.wide (λ x. (Q x).wide) }

abbrev pub or_four : {A : Type 0} → Four A → Four A → Four A
or_four P Q = record { is = λ ts x. P.is ts x ⊎ Q.is ts x; cut = λ ts x. P.cut ts x ⊎ Q.cut ts x; deep = λ ts x. P.deep ts x ⊎ Q.deep ts x; wide = λ ts x. P.wide ts x ⊎ Q.wide ts x }

-- what an outcome tells of the tokens
pub data Verdict {A : Type 0} (R : Four A) (ts : List Lexeme) : Outcome A → Type 0 where
  was_found : (pre rest : List Lexeme) (x : A) → ts ≡ pre ++ rest → R.is pre x → Verdict R ts (found x rest)
  was_syntax : (pre rest : List Lexeme) → ts ≡ pre ++ rest → Begins R.cut pre → Begins R.deep pre → Verdict R ts (syntax rest)
  was_nested : (pre : List Lexeme) (t : Lexeme) (rest : List Lexeme) → ts ≡ pre ++ t ∷ rest → Begins R.cut pre → Begins R.deep (pre ++ t ∷ []) → Verdict R ts (nested (t ∷ rest))

-- it is found, or nests too deep
pub data Answered {A : Type 0} (o : Outcome A) (x : A) (rest : List Lexeme) : Type 0 where
  answered : o ≡ found x rest → Answered o x rest
  too_deep : (us : List Lexeme) → o ≡ nested us → Answered o x rest

-- it is found, or stops at a cut
pub data Kept {A : Type 0} (o : Outcome A) (x : A) (rest : List Lexeme) : Type 0 where
  kept : o ≡ found x rest → Kept o x rest
  stopped : (us : List Lexeme) → o ≡ syntax us → Kept o x rest

pub then_answered : {A B : Type 0} (o : Outcome A) (f : A → Parser B) (x : A) (mid : List Lexeme) (y : B) (rest : List Lexeme) → Answered o x mid → Answered (f x mid) y rest → Answered (and_then o f) y rest
then_answered o f x mid y rest (answered h) g = subst (λ p. Answered (and_then p f) y rest) (sym h) g
then_answered o f x mid y rest (too_deep us h) g = too_deep us (ap (λ p. and_then p f) h)

pub then_kept : {A B : Type 0} (o : Outcome A) (f : A → Parser B) (x : A) (mid : List Lexeme) (y : B) (rest : List Lexeme) → Kept o x mid → Kept (f x mid) y rest → Kept (and_then o f) y rest
then_kept o f x mid y rest (kept h) g = subst (λ p. Kept (and_then p f) y rest) (sym h) g
then_kept o f x mid y rest (stopped us h) g = stopped us (ap (λ p. and_then p f) h)

pub record Reader {A : Type 0} (p : Parser A) (R : Four A) (Follow : List Lexeme → Type 0) : Type 0 where
  pub verdict : (ts : List Lexeme) → Verdict R ts (p ts)
  pub fill_cut : Begins R.cut []
  pub fill_deep : Begins R.deep []
  pub weak_cut : (us : List Lexeme) (x : A) → R.is us x → R.cut us x
  pub weak_deep : (us : List Lexeme) (x : A) → R.is us x → R.deep us x
  pub complete : (us : List Lexeme) (x : A) → R.wide us x → (rest : List Lexeme) → Follow rest → Answered (p (us ++ rest)) x rest
  pub keeps : (us : List Lexeme) (x : A) → R.cut us x → (rest : List Lexeme) → Follow rest → Kept (p (us ++ rest)) x rest
  pub steady : Steady p

-- whatever follows
abbrev pub Any : List Lexeme → Type 0
Any ts = Unit {0}

pub then_begins : {A B : Type 0} (P : Spells A) (Q : A → Spells B) (pre mid : List Lexeme) (x : A) → P pre x → Begins (Q x) mid → Begins (Then P Q) (pre ++ mid)
then_begins P Q pre mid x i b = record { others = b.others; x = b.x; is = record { front = pre; x = x; back = mid ++ b.others; all = append_assoc pre mid b.others; first = i; second = b.is } }

pub extends : {A B : Type 0} (P : Spells A) (Q : A → Spells B) (pre : List Lexeme) → Begins P pre → ((x : A) → Begins (Q x) []) → Begins (Then P Q) pre
extends P Q pre b fill =
    let c = fill b.x in
    record { others = b.others ++ c.others; x = c.x; is = record { front = pre ++ b.others; x = b.x; back = c.others; all = sym (append_assoc pre b.others c.others); first = b.is; second = c.is } }

joined : (ts pre mid pre2 rest : List Lexeme) → ts ≡ pre ++ mid → mid ≡ pre2 ++ rest → ts ≡ (pre ++ pre2) ++ rest
joined ts pre mid pre2 rest e f = e ∙ ap (λ v. pre ++ v) f ∙ sym (append_assoc pre pre2 rest)

module _ {A B : Type 0} {p : Parser A} {P : Four A} {FA : List Lexeme → Type 0} {f : A → Parser B} {Q : A → Four B} {FB : List Lexeme → Type 0} (reads : Reader p P FA) (next : (x : A) → Reader (f x) (Q x) FB) where
  then_after : (ts pre mid : List Lexeme) (x : A) (o : Outcome B) → ts ≡ pre ++ mid → P.is pre x → Verdict (Q x) mid o → Verdict (then_four P Q) ts o
  then_after ts pre mid x o e i (was_found pre2 rest y g j) = was_found (pre ++ pre2) rest y (joined ts pre mid pre2 rest e g) (record { front = pre; x = x; back = pre2; all = refl; first = i; second = j })
  then_after ts pre mid x o e i (was_syntax pre2 rest g c d) = was_syntax (pre ++ pre2) rest (joined ts pre mid pre2 rest e g)
      (then_begins P.cut (λ v. (Q v).cut) pre pre2 x (reads.weak_cut pre x i) c) (then_begins P.deep (λ v. (Q v).deep) pre pre2 x (reads.weak_deep pre x i) d)
  then_after ts pre mid x o e i (was_nested pre2 t rest g c d) = was_nested (pre ++ pre2) t rest (joined ts pre mid pre2 (t ∷ rest) e g)
      (then_begins P.cut (λ v. (Q v).cut) pre pre2 x (reads.weak_cut pre x i) c)
      (subst (λ v. Begins (Then P.deep (λ v. (Q v).deep)) v) (sym (append_assoc pre pre2 (t ∷ []))) (then_begins P.deep (λ v. (Q v).deep) pre (pre2 ++ t ∷ []) x (reads.weak_deep pre x i) d))

  then_verdict : (ts : List Lexeme) (o : Outcome A) → Verdict P ts o → Verdict (then_four P Q) ts (and_then o f)
  then_verdict ts o (was_found pre rest x e i) = then_after ts pre rest x (f x rest) e i ((next x).verdict rest)
  then_verdict ts o (was_syntax pre rest e c d) = was_syntax pre rest e (extends P.cut (λ v. (Q v).cut) pre c (λ x. (next x).fill_cut)) (extends P.deep (λ v. (Q v).deep) pre d (λ x. (next x).fill_deep))
  then_verdict ts o (was_nested pre t rest e c d) = was_nested pre t rest e (extends P.cut (λ v. (Q v).cut) pre c (λ x. (next x).fill_cut)) (extends P.deep (λ v. (Q v).deep) (pre ++ t ∷ []) d (λ x. (next x).fill_deep))

  pub then_reader : ((x : A) (us : List Lexeme) (y : B) (rest : List Lexeme) → (Q x).wide us y → FB rest → FA (us ++ rest)) → ((x : A) (us : List Lexeme) (y : B) (rest : List Lexeme) → (Q x).cut us y → FB rest → FA (us ++ rest))
      → Reader (λ ts. and_then (p ts) f) (then_four P Q) FB
  then_reader meets_wide meets_cut = record {
    verdict = λ ts. then_verdict ts (p ts) (reads.verdict ts);
    fill_cut = extends P.cut (λ v. (Q v).cut) [] reads.fill_cut (λ x. (next x).fill_cut);
    fill_deep = extends P.deep (λ v. (Q v).deep) [] reads.fill_deep (λ x. (next x).fill_deep);
    weak_cut = λ us y t. record { front = t.front; x = t.x; back = t.back; all = t.all; first = reads.weak_cut t.front t.x t.first; second = (next t.x).weak_cut t.back y t.second };
    weak_deep = λ us y t. record { front = t.front; x = t.x; back = t.back; all = t.all; first = reads.weak_deep t.front t.x t.first; second = (next t.x).weak_deep t.back y t.second };
    complete = λ us y t rest fol.
        (let whole : us ++ rest ≡ t.front ++ (t.back ++ rest) = ap (λ v. v ++ rest) t.all ∙ append_assoc t.front t.back rest in
        subst (λ v. Answered (and_then (p v) f) y rest) (sym whole)
        (then_answered (p (t.front ++ (t.back ++ rest))) f t.x (t.back ++ rest) y rest
        (reads.complete t.front t.x t.first (t.back ++ rest) (meets_wide t.x t.back y rest t.second fol)) ((next t.x).complete t.back y t.second rest fol)));
    keeps = λ us y t rest fol.
        (let whole : us ++ rest ≡ t.front ++ (t.back ++ rest) = ap (λ v. v ++ rest) t.all ∙ append_assoc t.front t.back rest in
        subst (λ v. Kept (and_then (p v) f) y rest) (sym whole)
        (then_kept (p (t.front ++ (t.back ++ rest))) f t.x (t.back ++ rest) y rest
        (reads.keeps t.front t.x t.first (t.back ++ rest) (meets_cut t.x t.back y rest t.second fol)) ((next t.x).keeps t.back y t.second rest fol)));
    steady = then_steady p f reads.steady (λ x. (next x).steady);
  }

-- where it does not matter what follows the first
pub then_any : {A B : Type 0} {p : Parser A} {P : Four A} {f : A → Parser B} {Q : A → Four B} {FB : List Lexeme → Type 0} → Reader p P Any → ((x : A) → Reader (f x) (Q x) FB) → Reader (λ ts. and_then (p ts) f) (then_four P Q) FB
then_any reads next = then_reader reads next (λ x us y rest i fol. tt) (λ x us y rest i fol. tt)

one_filled : {A : Type 0} (f : Lexeme → A) (kind : TokenKind) → Begins (IsOne f kind) []
one_filled f kind = record { others = plain kind ∷ []; x = f (plain kind); is = record { t = plain kind; all = refl; is = refl; keeps = refl } }

pub one_reader : {A : Type 0} (f : Lexeme → A) (kind : TokenKind) → Reader (take_one f kind) (same_four (IsOne f kind)) Any
one_reader {A} f kind = record {
  verdict = told;
  fill_cut = one_filled f kind;
  fill_deep = one_filled f kind;
  weak_cut = λ us x i. i;
  weak_deep = λ us x i. i;
  complete = λ us x i rest fol. answered (ap (λ v. take_one f kind (v ++ rest)) i.all ∙ takes f kind i.t rest i.is ∙ ap (λ v. found v rest) (sym i.keeps));
  keeps = λ us x i rest fol. kept (ap (λ v. take_one f kind (v ++ rest)) i.all ∙ takes f kind i.t rest i.is ∙ ap (λ v. found v rest) (sym i.keeps));
  steady = one_steady f kind;
}
  where
    told_by : (c : Lexeme) (ts : List Lexeme) (b : Bool) → same_kind c.kind kind ≡ b → Verdict (same_four (IsOne f kind)) (c ∷ ts) (if b then found (f c) ts else syntax (c ∷ ts))
    told_by c ts true e = was_found (c ∷ []) ts (f c) refl (record { t = c; all = refl; is = kinds_same c.kind kind e; keeps = refl })
    told_by c ts false e = was_syntax [] (c ∷ ts) refl (one_filled f kind) (one_filled f kind)

    told : (ts : List Lexeme) → Verdict (same_four (IsOne f kind)) ts (take_one f kind ts)
    told [] = was_syntax [] [] refl (one_filled f kind) (one_filled f kind)
    told (c ∷ ts) = told_by c ts (same_kind c.kind kind) refl

pub done_reader : {A : Type 0} (x : A) → Reader (done x) (same_four (IsNothing x)) Any
done_reader {A} x = record {
  verdict = λ ts. was_found [] ts x refl (record { all = refl; is = refl });
  fill_cut = record { others = []; x = x; is = record { all = refl; is = refl } };
  fill_deep = record { others = []; x = x; is = record { all = refl; is = refl } };
  weak_cut = λ us y i. i;
  weak_deep = λ us y i. i;
  complete = λ us y i rest fol. answered (ap (λ v. found x (v ++ rest)) i.all ∙ ap (λ v. found v rest) (sym i.is));
  keeps = λ us y i rest fol. kept (ap (λ v. found x (v ++ rest)) i.all ∙ ap (λ v. found v rest) (sym i.is));
  steady = gives_steady (λ (v : A). v) x;
}

-- one token that the function knows, where it knows some token
module _ {S : Type 0} (sign : Lexeme → Option S) (some : Lexeme) (value : S) (knows : sign some ≡ Some value) where
  known_filled : Begins (IsKnown sign) []
  known_filled = record { others = some ∷ []; x = value; is = record { t = some; all = refl; is = knows } }

  known_steady : Steady (pick sign)
  known_steady = record { short = shorter; local = same }
    where
      shorter_by : (c : Lexeme) (ts : List Lexeme) (o : Option S) → length (left (picked c ts o)) ≤ length (c ∷ ts)
      shorter_by c ts None = omega arith
      shorter_by c ts (Some s) = omega arith

      shorter : (ts : List Lexeme) → length (left (pick sign ts)) ≤ length ts
      shorter [] = omega arith
      shorter (c ∷ ts) = shorter_by c ts (sign c)

      here_by : (t : Lexeme) (us vs : List Lexeme) (o : Option S) → Follows t us vs (picked t us o) (picked t vs o)
      here_by t us vs None = both_syntax here
      here_by t us vs (Some s) = past (omega arith)

      there_by : (c t : Lexeme) (us vs a b : List Lexeme) → Agree t us vs a b → (o : Option S) → Follows t us vs (picked c a o) (picked c b o)
      there_by c t us vs a b h None = both_syntax (there h)
      there_by c t us vs a b h (Some s) = both_found h

      same : (t : Lexeme) (us vs a b : List Lexeme) → Agree t us vs a b → Follows t us vs (pick sign a) (pick sign b)
      same t us vs a b here = here_by t us vs (sign t)
      same t us vs a b (there {c = c} {a = a2} {b = b2} h) = there_by c t us vs a2 b2 h (sign c)

  pub known_reader : Reader (pick sign) (same_four (IsKnown sign)) Any
  known_reader = record {
    verdict = told;
    fill_cut = known_filled;
    fill_deep = known_filled;
    weak_cut = λ us x i. i;
    weak_deep = λ us x i. i;
    complete = λ us x i rest fol. answered (ap (λ v. pick sign (v ++ rest)) i.all ∙ ap (picked i.t rest) i.is);
    keeps = λ us x i rest fol. kept (ap (λ v. pick sign (v ++ rest)) i.all ∙ ap (picked i.t rest) i.is);
    steady = known_steady;
  }
    where
      told_by : (c : Lexeme) (ts : List Lexeme) (o : Option S) → sign c ≡ o → Verdict (same_four (IsKnown sign)) (c ∷ ts) (picked c ts o)
      told_by c ts None e = was_syntax [] (c ∷ ts) refl known_filled known_filled
      told_by c ts (Some s) e = was_found (c ∷ []) ts s refl (record { t = c; all = refl; is = e })

      told : (ts : List Lexeme) → Verdict (same_four (IsKnown sign)) ts (pick sign ts)
      told [] = was_syntax [] [] refl known_filled known_filled
      told (c ∷ ts) = told_by c ts (sign c) refl

pub expression_reader : (n m : ℕ) → Reader (read.sum (read.factor n)) (four_of IsSum n m) Ends
expression_reader n m = record {
  verdict = λ ts. told ts (read.sum (read.factor n) ts) (sum_verdict n (read.factor n) (factor_verdict n) ts);
  fill_cut = record { others = plain k.Number ∷ []; x = _; is = some_sum n };
  fill_deep = record { others = plain k.Number ∷ []; x = _; is = some_sum (suc n) };
  weak_cut = λ us x i. i;
  weak_deep = λ us x i. weaken_sum i;
  complete = λ us x i rest fol. wide_by (read.sum (read.factor n) (us ++ rest)) x rest (complete_sum i n rest fol);
  keeps = λ us x i rest fol. cut_by (read.sum (read.factor n) (us ++ rest)) x rest (complete_sum i n rest fol);
  steady = sum_steady (read.factor n) (factor_steady n);
}
  where
    told : (ts : List Lexeme) (o : Outcome Expr) → expressions.Verdict IsSum n ts o → Verdict (four_of IsSum n m) ts o
    told ts o (expressions.was_found pre rest x e i) = was_found pre rest x e i
    told ts o (expressions.was_syntax pre rest more x e i) = was_syntax pre rest e (record { others = more; x = x; is = i }) (record { others = more; x = x; is = weaken_sum i })
    told ts o (expressions.was_nested pre t rest more others x y e i j) = was_nested pre t rest e (record { others = more; x = x; is = i })
        (record { others = others; x = y; is = subst (λ v. IsSum (suc n) v y) (sym (append_assoc pre (t ∷ []) others)) j })

    wide_by : (o : Outcome Expr) (x : Expr) (rest : List Lexeme) → Answers n m o x rest → Answered o x rest
    wide_by o x rest (complete.answered h) = answered h
    wide_by o x rest (complete.too_deep us lt h) = too_deep us h

    cut_by : (o : Outcome Expr) (x : Expr) (rest : List Lexeme) → Answers n n o x rest → Kept o x rest
    cut_by o x rest (complete.answered h) = kept h
    cut_by o x rest (complete.too_deep us lt h) = absurd (omega arith)

-- one of two, by whether a token of the kind comes
module _ {A : Type 0} (kind : TokenKind) {p q : Parser A} {P Q : Four A} {Follow : List Lexeme → Type 0} (one : Reader p P Follow) (other : Reader q Q Follow)
    (with_wide : (us : List Lexeme) (x : A) (rest : List Lexeme) → P.wide us x → Follow rest → is_at kind (us ++ rest) ≡ true)
    (with_cut : (us : List Lexeme) (x : A) (rest : List Lexeme) → P.cut us x → Follow rest → is_at kind (us ++ rest) ≡ true)
    (without_wide : (us : List Lexeme) (x : A) (rest : List Lexeme) → Q.wide us x → Follow rest → is_at kind (us ++ rest) ≡ false)
    (without_cut : (us : List Lexeme) (x : A) (rest : List Lexeme) → Q.cut us x → Follow rest → is_at kind (us ++ rest) ≡ false) where
  left_begins : {R T : Spells A} {ts : List Lexeme} → Begins R ts → Begins (λ us x. R us x ⊎ T us x) ts
  left_begins b = record { others = b.others; x = b.x; is = inl b.is }

  right_begins : {R T : Spells A} {ts : List Lexeme} → Begins T ts → Begins (λ us x. R us x ⊎ T us x) ts
  right_begins b = record { others = b.others; x = b.x; is = inr b.is }

  left_verdict : (ts : List Lexeme) (o : Outcome A) → Verdict P ts o → Verdict (or_four P Q) ts o
  left_verdict ts o (was_found pre rest x e i) = was_found pre rest x e (inl i)
  left_verdict ts o (was_syntax pre rest e c d) = was_syntax pre rest e (left_begins {R = P.cut} {T = Q.cut} c) (left_begins {R = P.deep} {T = Q.deep} d)
  left_verdict ts o (was_nested pre t rest e c d) = was_nested pre t rest e (left_begins {R = P.cut} {T = Q.cut} c) (left_begins {R = P.deep} {T = Q.deep} d)

  right_verdict : (ts : List Lexeme) (o : Outcome A) → Verdict Q ts o → Verdict (or_four P Q) ts o
  right_verdict ts o (was_found pre rest x e i) = was_found pre rest x e (inr i)
  right_verdict ts o (was_syntax pre rest e c d) = was_syntax pre rest e (right_begins {R = P.cut} {T = Q.cut} c) (right_begins {R = P.deep} {T = Q.deep} d)
  right_verdict ts o (was_nested pre t rest e c d) = was_nested pre t rest e (right_begins {R = P.cut} {T = Q.cut} c) (right_begins {R = P.deep} {T = Q.deep} d)

  either_verdict : (ts : List Lexeme) (b : Bool) → Verdict (or_four P Q) ts (if b then p ts else q ts)
  either_verdict ts true = left_verdict ts (p ts) (one.verdict ts)
  either_verdict ts false = right_verdict ts (q ts) (other.verdict ts)

  weak_cut_by : (us : List Lexeme) (x : A) → P.is us x ⊎ Q.is us x → P.cut us x ⊎ Q.cut us x
  weak_cut_by us x (inl i) = inl (one.weak_cut us x i)
  weak_cut_by us x (inr i) = inr (other.weak_cut us x i)

  weak_deep_by : (us : List Lexeme) (x : A) → P.is us x ⊎ Q.is us x → P.deep us x ⊎ Q.deep us x
  weak_deep_by us x (inl i) = inl (one.weak_deep us x i)
  weak_deep_by us x (inr i) = inr (other.weak_deep us x i)

  complete_by : (us : List Lexeme) (x : A) → P.wide us x ⊎ Q.wide us x → (rest : List Lexeme) → Follow rest → Answered (either kind p q (us ++ rest)) x rest
  complete_by us x (inl i) rest f = subst (λ (b : Bool). Answered (if b then p (us ++ rest) else q (us ++ rest)) x rest) (sym (with_wide us x rest i f)) (one.complete us x i rest f)
  complete_by us x (inr i) rest f = subst (λ (b : Bool). Answered (if b then p (us ++ rest) else q (us ++ rest)) x rest) (sym (without_wide us x rest i f)) (other.complete us x i rest f)

  keeps_by : (us : List Lexeme) (x : A) → P.cut us x ⊎ Q.cut us x → (rest : List Lexeme) → Follow rest → Kept (either kind p q (us ++ rest)) x rest
  keeps_by us x (inl i) rest f = subst (λ (b : Bool). Kept (if b then p (us ++ rest) else q (us ++ rest)) x rest) (sym (with_cut us x rest i f)) (one.keeps us x i rest f)
  keeps_by us x (inr i) rest f = subst (λ (b : Bool). Kept (if b then p (us ++ rest) else q (us ++ rest)) x rest) (sym (without_cut us x rest i f)) (other.keeps us x i rest f)

  pub either_reader : Reader (either kind p q) (or_four P Q) Follow
  either_reader = record {
    verdict = λ ts. either_verdict ts (is_at kind ts);
    fill_cut = left_begins {R = P.cut} {T = Q.cut} one.fill_cut;
    fill_deep = left_begins {R = P.deep} {T = Q.deep} one.fill_deep;
    weak_cut = weak_cut_by;
    weak_deep = weak_deep_by;
    complete = complete_by;
    keeps = keeps_by;
    steady = at_steady kind p q one.steady other.steady;
  }

-- what its tokens begin with
abbrev pub Starts : {A : Type 0} → Spells A → TokenKind → Bool → Type 0
Starts {A} P kind b = (us : List Lexeme) (x : A) (rest : List Lexeme) → P us x → is_at kind (us ++ rest) ≡ b

pub one_starts : {A : Type 0} (f : Lexeme → A) (kind other : TokenKind) → Starts (IsOne f kind) other (same_kind kind other)
one_starts f kind other us x rest i = ap (λ v. is_at other (v ++ rest)) i.all ∙ ap (λ a. same_kind a other) i.is

pub known_starts : {S : Type 0} (sign : Lexeme → Option S) (other : TokenKind) → ((t : Lexeme) (s : S) → sign t ≡ Some s → same_kind t.kind other ≡ false) → Starts (IsKnown sign) other false
known_starts sign other h us x rest i = ap (λ v. is_at other (v ++ rest)) i.all ∙ h i.t x i.is

pub then_starts : {A B : Type 0} (P : Spells A) (Q : A → Spells B) (other : TokenKind) (b : Bool) → Starts P other b → Starts (Then P Q) other b
then_starts P Q other b h us y rest t = ap (λ v. is_at other (v ++ rest)) t.all ∙ ap (is_at other) (append_assoc t.front t.back rest) ∙ h t.front t.x (t.back ++ rest) t.first

-- its tokens end an expression before them
abbrev pub EndsBefore : {A : Type 0} → Spells A → Type 0
EndsBefore {A} P = (us : List Lexeme) (x : A) (rest : List Lexeme) → P us x → Ends (us ++ rest)

pub one_ends : {A : Type 0} (f : Lexeme → A) (kind : TokenKind) → Stops kind → EndsBefore (IsOne f kind)
one_ends f kind s us x rest i = subst (λ v. Ends (v ++ rest)) (sym i.all) (stops_ends kind s i.t rest i.is)

pub then_ends : {A B : Type 0} (P : Spells A) (Q : A → Spells B) → EndsBefore P → EndsBefore (Then P Q)
then_ends P Q h us y rest t = subst (λ v. Ends v) (sym (ap (λ v. v ++ rest) t.all ∙ append_assoc t.front t.back rest)) (h t.front t.x (t.back ++ rest) t.first)

pub semi_stops : Stops k.Semi
semi_stops = record { bracket = refl; paren = refl; product = λ at. refl; sum = refl }

pub brace_stops : Stops k.CloseBrace
brace_stops = record { bracket = refl; paren = refl; product = λ at. refl; sum = refl }

pub open_brace_stops : Stops k.OpenBrace
open_brace_stops = record { bracket = refl; paren = refl; product = λ at. refl; sum = refl }

pub range_stops : Stops k.Range
range_stops = record { bracket = refl; paren = refl; product = λ at. refl; sum = refl }
