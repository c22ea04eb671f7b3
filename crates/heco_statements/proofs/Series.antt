-- Items behind their signs, as many as there are.
use Rattle.std.proofs.Common.{◌≡◌, ◌∙◌, sym, ap, subst, refl, ℕ, zero, suc, ◌≤◌, List, [], ◌∷◌, ◌++◌, Some, None, Option, append_assoc, append-nil, arith, length, length-append}
use Rattle.heco_syntax.specs.Limits.{Begins}
use Rattle.heco_syntax.specs.Productions.{Spells, IsKnown, Then, Many, none, more}
use Rattle.heco_syntax.specs.declared.lexeme.Lexeme.{Lexeme}
use Rattle.heco_expressions.specs.Reading.{Outcome, Parser, found, syntax, nested, and_then, signed, behind}
use Rattle.heco_expressions.proofs.Steady.{Steady, Agree, Follows, left, here, there, both_found, both_syntax, both_nested, past}
use Rattle.heco_statements.specs.Reading.{series, series_by}
use Rattle.heco_statements.proofs.Readers.{Four, Verdict, was_found, was_syntax, was_nested, Answered, answered, Kept, kept, then_answered, then_kept, Reader}

-- what more items add to those before
pub record Adds {A : Type 0} (before : List A) (Item : List Lexeme → A → Type 0) (us : List Lexeme) (all : List A) : Type 0 where
  pub xs : List A
  pub is : all ≡ before ++ xs
  pub many : Many Item us xs

nothing : {A : Type 0} (before : List A) (Item : Spells A) → Adds before Item [] before
nothing before Item = record { xs = []; is = sym (append-nil before); many = none }

nothing_begins : {A : Type 0} (before : List A) (Item : Spells A) → Begins (Adds before Item) []
nothing_begins before Item = record { others = []; x = before; is = nothing before Item }

abbrev pub led : {S A : Type 0} → (Lexeme → Option S) → (S → Spells A) → Spells A
led sign Item = Then (IsKnown sign) Item

module _ {S A : Type 0} (sign : Lexeme → Option S) {item : S → Parser A} {I : S → Four A} {FI : List Lexeme → Type 0} (reads : (s : S) → Reader (item s) (I s) FI) where
  one_more : {Item : S → Spells A} (before : List A) (t : Lexeme) (s : S) (us vs : List Lexeme) (x : A) (all : List A) → sign t ≡ Some s → Item s us x → Adds (before ++ x ∷ []) (led sign Item) vs all → Adds before (led sign Item) (t ∷ (us ++ vs)) all
  one_more {Item} before t s us vs x all e i a = record {
    xs = x ∷ a.xs;
    is = a.is ∙ append_assoc before (x ∷ []) a.xs;
    many = more {ts = t ∷ us} (record { front = t ∷ []; x = s; back = us; all = refl; first = record { t = t; all = refl; is = e }; second = i }) a.many;
  }

  one_begins : {Item : S → Spells A} (before : List A) (t : Lexeme) (s : S) (us : List Lexeme) → sign t ≡ Some s → Begins (Item s) us → Begins (Adds before (led sign Item)) (t ∷ us)
  one_begins {Item} before t s us e b = record {
    others = b.others;
    x = before ++ b.x ∷ [];
    is = subst (λ v. Adds before (led sign Item) v (before ++ b.x ∷ [])) (ap (λ v. t ∷ v) (append-nil (us ++ b.others)))
        (one_more {Item = Item} before t s (us ++ b.others) [] b.x (before ++ b.x ∷ []) e b.is (nothing (before ++ b.x ∷ []) (led sign Item)));
  }

  more_begins : {Item : S → Spells A} (before : List A) (t : Lexeme) (s : S) (us vs : List Lexeme) (x : A) → sign t ≡ Some s → Item s us x → Begins (Adds (before ++ x ∷ []) (led sign Item)) vs → Begins (Adds before (led sign Item)) (t ∷ (us ++ vs))
  more_begins {Item} before t s us vs x e i b = record {
    others = b.others;
    x = b.x;
    is = subst (λ v. Adds before (led sign Item) (t ∷ v) b.x) (sym (append_assoc us vs b.others)) (one_more {Item = Item} before t s us (vs ++ b.others) x b.x e i b.is);
  }

  abbrev pub T : List A → Four (List A)
  T before = record { is = Adds before (led sign (λ s. (I s).is)); cut = Adds before (led sign (λ s. (I s).cut)); deep = Adds before (led sign (λ s. (I s).deep)); wide = Adds before (led sign (λ s. (I s).wide)) }

  behind_one : (before : List A) (t : Lexeme) (s : S) (ts pre mid : List Lexeme) (x : A) (o : Outcome (List A)) → sign t ≡ Some s → ts ≡ pre ++ mid → (I s).is pre x → Verdict (T (before ++ x ∷ [])) mid o → Verdict (T before) (t ∷ ts) o
  behind_one before t s ts pre mid x o e f i (was_found pre2 rest all g a) =
      was_found (t ∷ (pre ++ pre2)) rest all (ap (λ v. t ∷ v) (f ∙ ap (λ v. pre ++ v) g ∙ sym (append_assoc pre pre2 rest))) (one_more {Item = λ s. (I s).is} before t s pre pre2 x all e i a)
  behind_one before t s ts pre mid x o e f i (was_syntax pre2 rest g c d) =
      was_syntax (t ∷ (pre ++ pre2)) rest (ap (λ v. t ∷ v) (f ∙ ap (λ v. pre ++ v) g ∙ sym (append_assoc pre pre2 rest)))
      (more_begins {Item = λ s. (I s).cut} before t s pre pre2 x e ((reads s).weak_cut pre x i) c) (more_begins {Item = λ s. (I s).deep} before t s pre pre2 x e ((reads s).weak_deep pre x i) d)
  behind_one before t s ts pre mid x o e f i (was_nested pre2 u rest g c d) =
      was_nested (t ∷ (pre ++ pre2)) u rest (ap (λ v. t ∷ v) (f ∙ ap (λ v. pre ++ v) g ∙ sym (append_assoc pre pre2 (u ∷ rest))))
      (more_begins {Item = λ s. (I s).cut} before t s pre pre2 x e ((reads s).weak_cut pre x i) c)
      (subst (λ v. Begins (T before).deep (t ∷ v)) (sym (append_assoc pre pre2 (u ∷ [])))
      (more_begins {Item = λ s. (I s).deep} before t s pre (pre2 ++ u ∷ []) x e ((reads s).weak_deep pre x i) d))

  one_verdict : (before : List A) (t : Lexeme) (s : S) (ts : List Lexeme) (o : Outcome A) (next : A → Parser (List A)) → sign t ≡ Some s → Verdict (I s) ts o
      → ((x : A) (mid : List Lexeme) → Verdict (T (before ++ x ∷ [])) mid (next x mid)) → Verdict (T before) (t ∷ ts) (and_then o next)
  one_verdict before t s ts o next e (was_found pre mid x f i) g = behind_one before t s ts pre mid x (next x mid) e f i (g x mid)
  one_verdict before t s ts o next e (was_syntax pre rest f c d) g = was_syntax (t ∷ pre) rest (ap (λ v. t ∷ v) f) (one_begins {Item = λ s. (I s).cut} before t s pre e c) (one_begins {Item = λ s. (I s).deep} before t s pre e d)
  one_verdict before t s ts o next e (was_nested pre u rest f c d) g = was_nested (t ∷ pre) u rest (ap (λ v. t ∷ v) f) (one_begins {Item = λ s. (I s).cut} before t s pre e c) (one_begins {Item = λ s. (I s).deep} before t s (pre ++ u ∷ []) e d)

  series_verdict : (turns : ℕ) (before : List A) (ts : List Lexeme) → Verdict (T before) ts (series sign item turns before ts)
  unfolding series
  series_verdict zero before ts = was_found [] ts before refl (nothing before (led sign (λ s. (I s).is)))
  series_verdict (suc turns) before [] = was_found [] [] before refl (nothing before (led sign (λ s. (I s).is)))
  series_verdict (suc turns) before (t ∷ ts) = by (series_verdict turns) (sign t) refl
    where
      by : ((before : List A) (ts : List Lexeme) → Verdict (T before) ts (series sign item turns before ts)) → (o : Option S) → sign t ≡ o
          → Verdict (T before) (t ∷ ts) (series_by sign item (series sign item turns) before (t ∷ ts) (behind ts o))
      by next None e = was_found [] (t ∷ ts) before refl (nothing before (led sign (λ s. (I s).is)))
      by next (Some s) e = one_verdict before t s ts (item s ts) (λ x. series sign item turns (before ++ x ∷ [])) e ((reads s).verdict ts) (λ x mid. next (before ++ x ∷ []) mid)

  many_count : {Item : S → Spells A} {us : List Lexeme} {xs : List A} → Many (led sign Item) us xs → length xs ≤ length us
  many_count none = omega arith
  many_count {Item} (more {ts = ts} {us = us} h m) = omega (arith, many_count {Item = Item} m, length-append ts us, ap length h.all, length-append h.front h.back, ap length h.first.all)

  -- the tokens of one item, its sign in front
  turned : {Item : S → Spells A} (turns : ℕ) (before : List A) (ts us rest : List Lexeme) (x : A) (h : led sign Item ts x) → series sign item (suc turns) before ((ts ++ us) ++ rest) ≡ and_then (item h.x (h.back ++ (us ++ rest))) (λ y. series sign item turns (before ++ y ∷ []))
  unfolding series
  turned turns before ts us rest x h =
      let front : ts ≡ h.first.t ∷ h.back = h.all ∙ ap (λ v. v ++ h.back) h.first.all in
      let whole : (ts ++ us) ++ rest ≡ h.first.t ∷ (h.back ++ (us ++ rest)) = ap (λ v. (v ++ us) ++ rest) front ∙ ap (λ v. h.first.t ∷ v) (append_assoc h.back us rest) in
      ap (λ v. series_by sign item (series sign item turns) before v (signed sign v)) whole
      ∙ ap (λ o. series_by sign item (series sign item turns) before (h.first.t ∷ (h.back ++ (us ++ rest))) (behind (h.back ++ (us ++ rest)) o)) h.first.is

  ended : (turns : ℕ) (before : List A) (rest : List Lexeme) → signed sign rest ≡ None → series sign item turns before rest ≡ found before rest
  unfolding series
  ended zero before rest h = refl
  ended (suc turns) before rest h = ap (λ o. series_by sign item (series sign item turns) before rest o) h

  module _ (Follow : List Lexeme → Type 0) (stop : (rest : List Lexeme) → Follow rest → signed sign rest ≡ None)
      (meets_wide : (us : List Lexeme) (xs : List A) (rest : List Lexeme) → Many (led sign (λ s. (I s).wide)) us xs → Follow rest → FI (us ++ rest))
      (meets_cut : (us : List Lexeme) (xs : List A) (rest : List Lexeme) → Many (led sign (λ s. (I s).cut)) us xs → Follow rest → FI (us ++ rest)) where
    series_complete : (us : List Lexeme) (xs : List A) → Many (led sign (λ s. (I s).wide)) us xs → (turns : ℕ) (before : List A) (rest : List Lexeme) → Follow rest → length xs ≤ turns
        → Answered (series sign item turns before (us ++ rest)) (before ++ xs) rest
    series_complete us xs none turns before rest f le = answered (ended turns before rest (stop rest f) ∙ ap (λ v. found v rest) (sym (append-nil before)))
    series_complete us xs (more h m) zero before rest f le = absurd (omega arith)
    series_complete us all (more {ts = ts} {us = vs} {x = x} {xs = xs} h m) (suc turns) before rest f le =
        subst (λ o. Answered o (before ++ x ∷ xs) rest) (sym (turned {Item = λ s. (I s).wide} turns before ts vs rest x h))
        (then_answered (item h.x (h.back ++ (vs ++ rest))) (λ y. series sign item turns (before ++ y ∷ [])) x (vs ++ rest) (before ++ x ∷ xs) rest
        ((reads h.x).complete h.back x h.second (vs ++ rest) (meets_wide vs xs rest m f))
        (subst (λ v. Answered (series sign item turns (before ++ x ∷ []) (vs ++ rest)) v rest) (append_assoc before (x ∷ []) xs) (series_complete vs xs m turns (before ++ x ∷ []) rest f (omega arith))))

    series_keeps : (us : List Lexeme) (xs : List A) → Many (led sign (λ s. (I s).cut)) us xs → (turns : ℕ) (before : List A) (rest : List Lexeme) → Follow rest → length xs ≤ turns
        → Kept (series sign item turns before (us ++ rest)) (before ++ xs) rest
    series_keeps us xs none turns before rest f le = kept (ended turns before rest (stop rest f) ∙ ap (λ v. found v rest) (sym (append-nil before)))
    series_keeps us xs (more h m) zero before rest f le = absurd (omega arith)
    series_keeps us all (more {ts = ts} {us = vs} {x = x} {xs = xs} h m) (suc turns) before rest f le =
        subst (λ o. Kept o (before ++ x ∷ xs) rest) (sym (turned {Item = λ s. (I s).cut} turns before ts vs rest x h))
        (then_kept (item h.x (h.back ++ (vs ++ rest))) (λ y. series sign item turns (before ++ y ∷ [])) x (vs ++ rest) (before ++ x ∷ xs) rest
        ((reads h.x).keeps h.back x h.second (vs ++ rest) (meets_cut vs xs rest m f))
        (subst (λ v. Kept (series sign item turns (before ++ x ∷ []) (vs ++ rest)) v rest) (append_assoc before (x ∷ []) xs) (series_keeps vs xs m turns (before ++ x ∷ []) rest f (omega arith))))

    weaken : {Item Other : S → Spells A} → ((s : S) (us : List Lexeme) (x : A) → Item s us x → Other s us x) → (us : List Lexeme) (xs : List A) → Many (led sign Item) us xs → Many (led sign Other) us xs
    weaken h us xs none = none
    weaken {Item} {Other} h us all (more {ts = ts} {us = vs} {x = x} {xs = xs} i m) = more (record { front = i.front; x = i.x; back = i.back; all = i.all; first = i.first; second = h i.x i.back x i.second }) (weaken {Item = Item} {Other = Other} h vs xs m)

    cut_in : (before : List A) (us : List Lexeme) (all : List A) → (T before).is us all → (T before).cut us all
    cut_in before us all a = record { xs = a.xs; is = a.is; many = weaken {Item = λ s. (I s).is} {Other = λ s. (I s).cut} (λ s. (reads s).weak_cut) us a.xs a.many }

    deep_in : (before : List A) (us : List Lexeme) (all : List A) → (T before).is us all → (T before).deep us all
    deep_in before us all a = record { xs = a.xs; is = a.is; many = weaken {Item = λ s. (I s).is} {Other = λ s. (I s).deep} (λ s. (reads s).weak_deep) us a.xs a.many }

    then_short : {B : Type 0} (o : Outcome A) (f : A → Parser B) → ((x : A) (ts : List Lexeme) → length (left (f x ts)) ≤ length ts) → length (left (and_then o f)) ≤ length (left o)
    then_short (found x ts) f h = h x ts
    then_short (syntax ts) f h = omega arith
    then_short (nested ts) f h = omega arith

    series_short : (turns : ℕ) (before : List A) (ts : List Lexeme) → length (left (series sign item turns before ts)) ≤ length ts
    unfolding series
    series_short zero before ts = omega arith
    series_short (suc turns) before [] = omega arith
    series_short (suc turns) before (t ∷ ts) = by (series_short turns) (sign t)
      where
        by : ((before : List A) (ts : List Lexeme) → length (left (series sign item turns before ts)) ≤ length ts) → (o : Option S)
            → length (left (series_by sign item (series sign item turns) before (t ∷ ts) (behind ts o))) ≤ length (t ∷ ts)
        by next None = omega arith
        by next (Some s) = omega (arith, then_short (item s ts) (λ x. series sign item turns (before ++ x ∷ [])) (λ x us. next (before ++ x ∷ []) us), (reads s).steady.short ts)

    then_local : (t : Lexeme) (us vs : List Lexeme) (o p : Outcome A) (f g : A → Parser (List A)) → Follows t us vs o p → ((x : A) (ts : List Lexeme) → length (left (f x ts)) ≤ length ts)
        → ((x : A) (a b : List Lexeme) → o ≡ found x a → p ≡ found x b → Agree t us vs a b → Follows t us vs (f x a) (g x b)) → Follows t us vs (and_then o f) (and_then p g)
    then_local t us vs (found x a) (found y b) f g (both_found h) s l = l x a b refl refl h
    then_local t us vs (syntax a) (syntax b) f g (both_syntax h) s l = both_syntax h
    then_local t us vs (nested a) (nested b) f g (both_nested h) s l = both_nested h
    then_local t us vs o p f g (past h) s l = past (omega (arith, then_short o f s))

    found_short : (s : S) (ts : List Lexeme) (x : A) (us : List Lexeme) → item s ts ≡ found x us → length us ≤ length ts
    found_short s ts x us h = subst (λ o. length (left o) ≤ length ts) h ((reads s).steady.short ts)

    series_local : (j i : ℕ) (before : List A) (t : Lexeme) (us vs a b : List Lexeme) → length a ≤ j → length b ≤ i → Agree t us vs a b → Follows t us vs (series sign item j before a) (series sign item i before b)
    unfolding series
    series_local zero i before t us vs a b lj li here = absurd (omega arith)
    series_local zero i before t us vs a b lj li (there h) = absurd (omega arith)
    series_local (suc j) zero before t us vs a b lj li here = absurd (omega arith)
    series_local (suc j) zero before t us vs a b lj li (there h) = absurd (omega arith)
    series_local (suc j) (suc i) before t us vs a b lj li here = by (sign t)
      where
        by : (o : Option S) → Follows t us vs (series_by sign item (series sign item j) before (t ∷ us) (behind us o)) (series_by sign item (series sign item i) before (t ∷ vs) (behind vs o))
        by None = both_found here
        by (Some s) = past (omega (arith, then_short (item s us) (λ x. series sign item j (before ++ x ∷ [])) (λ x ts. series_short j (before ++ x ∷ []) ts), (reads s).steady.short us))
    series_local (suc j) (suc i) before t us vs a b lj li (there {c = c} {a = a2} {b = b2} h) = by (series_local j i) (sign c)
      where
        by : ((before : List A) (t : Lexeme) (us vs a b : List Lexeme) → length a ≤ j → length b ≤ i → Agree t us vs a b → Follows t us vs (series sign item j before a) (series sign item i before b))
            → (o : Option S) → Follows t us vs (series_by sign item (series sign item j) before (c ∷ a2) (behind a2 o)) (series_by sign item (series sign item i) before (c ∷ b2) (behind b2 o))
        by next None = both_found (there h)
        by next (Some s) = then_local t us vs (item s a2) (item s b2) (λ x. series sign item j (before ++ x ∷ [])) (λ x. series sign item i (before ++ x ∷ []))
            ((reads s).steady.local t us vs a2 b2 h) (λ x ts. series_short j (before ++ x ∷ []) ts)
            (λ x d f e1 e2 g. next (before ++ x ∷ []) t us vs d f (omega (arith, found_short s a2 x d e1)) (omega (arith, found_short s b2 x f e2)) g)

    pub series_steady : (before : List A) → Steady (λ ts. series sign item (length ts) before ts)
    series_steady before = record { short = λ ts. series_short (length ts) before ts; local = λ t us vs a b h. series_local (length a) (length b) before t us vs a b (omega arith) (omega arith) h }

    pub adds_reader : (before : List A) → Reader (λ ts. series sign item (length ts) before ts) (T before) Follow
    adds_reader before = record {
      verdict = λ ts. series_verdict (length ts) before ts;
      fill_cut = nothing_begins before (led sign (λ s. (I s).cut));
      fill_deep = nothing_begins before (led sign (λ s. (I s).deep));
      weak_cut = cut_in before;
      weak_deep = deep_in before;
      complete = λ us all a rest f. subst (λ v. Answered (series sign item (length (us ++ rest)) before (us ++ rest)) v rest) (sym a.is)
          (series_complete us a.xs a.many (length (us ++ rest)) before rest f (omega (arith, many_count {Item = λ s. (I s).wide} a.many, length-append us rest)));
      keeps = λ us all a rest f. subst (λ v. Kept (series sign item (length (us ++ rest)) before (us ++ rest)) v rest) (sym a.is)
          (series_keeps us a.xs a.many (length (us ++ rest)) before rest f (omega (arith, many_count {Item = λ s. (I s).cut} a.many, length-append us rest)));
      steady = series_steady before;
    }
