-- What the reading of a whole source answers, by the productions alone.
use Rattle.std.proofs.Common.{◌≡◌, ◌∙◌, sym, ap, subst, refl, ℕ, suc, List, [], ◌∷◌, ◌++◌, append-nil, append_assoc, arith, length}
use Rattle.heco_syntax.specs.Limits.{Begins, Viable, IsCut, AreDead}
use Rattle.heco_syntax.specs.Sources.{IsSource}
use Rattle.heco_syntax.specs.declared.lexeme.Lexeme.{Lexeme}
use Rattle.heco_syntax.specs.declared.tree.Source.{Source}
use Rattle.heco_expressions.specs.Reading.{Outcome, found, syntax, nested, and_then}
use Rattle.heco_expressions.proofs.Steady.{Agree, Follows, left, here, there, both_found, both_syntax, both_nested, past}
use Rattle.heco_statements.specs.Reading.{source, whole, ended}
use Rattle.heco_statements.proofs.Readers.{Verdict, was_found, was_syntax, was_nested, Answered, answered, too_deep, Kept, kept, stopped}
use Rattle.heco_statements.proofs.SourceReaders.{whole_reader, source_four}

agree_behind : (t : Lexeme) (us vs pre : List Lexeme) → Agree t us vs (pre ++ t ∷ us) (pre ++ t ∷ vs)
agree_behind t us vs [] = here
agree_behind t us vs (c ∷ pre) = there (agree_behind t us vs pre)

syntax_stays : (t : Lexeme) (us vs : List Lexeme) (o p : Outcome Source) → Follows t us vs o p → o ≡ syntax (t ∷ us) → (b : List Lexeme) × (p ≡ syntax b)
syntax_stays t us vs (found x a) (found y b) (both_found h) e = cc
syntax_stays t us vs (syntax a) (syntax b) (both_syntax h) e = (b, refl)
syntax_stays t us vs (nested a) (nested b) (both_nested h) e = cc
syntax_stays t us vs o p (past le) e = absurd (let h : length (left o) ≡ suc (length us) = ap (λ v. length (left v)) e in omega arith)

nested_stays : (t : Lexeme) (us vs : List Lexeme) (o p : Outcome Source) → Follows t us vs o p → o ≡ nested (t ∷ us) → (b : List Lexeme) × (p ≡ nested b)
nested_stays t us vs (found x a) (found y b) (both_found h) e = cc
nested_stays t us vs (syntax a) (syntax b) (both_syntax h) e = cc
nested_stays t us vs (nested a) (nested b) (both_nested h) e = (b, refl)
nested_stays t us vs o p (past le) e = absurd (let h : length (left o) ≡ suc (length us) = ap (λ v. length (left v)) e in omega arith)

no_syntax : (o : Outcome Source) (y : Source) (b : List Lexeme) → Answered o y [] → o ≡ syntax b → ⊥
no_syntax o y b (answered h) e = let bad : found y [] ≡ syntax b = sym h ∙ e in cc
no_syntax o y b (too_deep us h) e = let bad : nested us ≡ syntax b = sym h ∙ e in cc

no_nested : (o : Outcome Source) (y : Source) (b : List Lexeme) → Kept o y [] → o ≡ nested b → ⊥
no_nested o y b (kept h) e = let bad : found y [] ≡ nested b = sym h ∙ e in cc
no_nested o y b (stopped us h) e = let bad : syntax us ≡ nested b = sym h ∙ e in cc

wide : (n d m e : ℕ) (ts : List Lexeme) (y : Source) → IsSource m e ts y → Answered (whole n d ts) y []
wide n d m e ts y i = subst (λ v. Answered (whole n d v) y []) (append-nil ts) ((whole_reader n d m e).complete ts y i [] refl)

cuts : (n d : ℕ) (ts : List Lexeme) (y : Source) → IsCut n d ts y → Kept (whole n d ts) y []
cuts n d ts y i = subst (λ v. Kept (whole n d v) y []) (append-nil ts) ((whole_reader n d n d).keeps ts y i [] refl)

ended_found : (o : Outcome Source) (x : Source) (rest : List Lexeme) → and_then o ended ≡ found x rest → rest ≡ []
ended_found (found y []) x rest h = cc
ended_found (found y (t ∷ ts)) x rest h = cc
ended_found (syntax ts) x rest h = cc
ended_found (nested ts) x rest h = cc

module _ (n d : ℕ) (ts : List Lexeme) where
  found_by : (o : Outcome Source) (x : Source) (rest : List Lexeme) → Verdict (source_four n d n d) ts o → o ≡ found x rest → (pre : List Lexeme) × (ts ≡ pre ++ rest) × IsSource n d pre x
  found_by o x rest (was_found pre r y e i) h =
      let a : y ≡ x = cc in
      let b : r ≡ rest = cc in
      (pre, e ∙ ap (λ v. pre ++ v) b, subst (λ v. IsSource n d pre v) a i)
  found_by o x rest (was_syntax pre r e c f) h = cc
  found_by o x rest (was_nested pre t r e c f) h = cc

  -- what is found is the tree of all the tokens
  pub whole_found : (x : Source) (rest : List Lexeme) → whole n d ts ≡ found x rest → IsSource n d ts x
  whole_found x rest h =
      let f = found_by (whole n d ts) x rest ((whole_reader n d n d).verdict ts) h in
      let none : rest ≡ [] = ended_found (source n d ts) x rest h in
      subst (λ v. IsSource n d v x) (sym (f.1 ∙ ap (λ v. f.0 ++ v) none ∙ append-nil f.0)) f.2

  only_by : (o : Outcome Source) (x y : Source) (rest : List Lexeme) → Answered o y [] → o ≡ found x rest → y ≡ x
  only_by o x y rest (answered h) e = cc
  only_by o x y rest (too_deep us h) e = cc

  -- and the only one
  pub whole_only : (x : Source) (rest : List Lexeme) → whole n d ts ≡ found x rest → (m e : ℕ) (y : Source) → IsSource m e ts y → y ≡ x
  whole_only x rest h m e y i = only_by (whole n d ts) x y rest (wide n d m e ts y i) h

  pub record Stopped (rest : List Lexeme) : Type 0 where
    pub before : List Lexeme
    pub all : ts ≡ before ++ rest
    pub viable : Viable before
    pub shallow : Begins (IsCut n d) before
    pub dead : AreDead before rest

  dead_by : (pre rest : List Lexeme) → ts ≡ pre ++ rest → whole n d ts ≡ syntax rest → AreDead pre rest
  dead_by pre [] e h = λ m f x i. no_syntax (whole n d ts) x [] (wide n d m f ts x (subst (λ v. IsSource m f v x) (sym (e ∙ append-nil pre)) i)) h
  dead_by pre (t ∷ us) e h = λ v.
      let i = subst (λ w. IsSource v.n v.d w v.begins.x) (append_assoc pre (t ∷ []) v.begins.others) v.begins.is in
      let f = (whole_reader n d n d).steady.local t us v.begins.others (pre ++ t ∷ us) (pre ++ t ∷ v.begins.others) (agree_behind t us v.begins.others pre) in
      let g = syntax_stays t us v.begins.others (whole n d (pre ++ t ∷ us)) (whole n d (pre ++ t ∷ v.begins.others)) f (ap (whole n d) (sym e) ∙ h) in
      no_syntax (whole n d (pre ++ t ∷ v.begins.others)) v.begins.x g.0 (wide n d v.n v.d (pre ++ t ∷ v.begins.others) v.begins.x i) g.1

  stopped_by : (o : Outcome Source) (rest : List Lexeme) → whole n d ts ≡ o → Verdict (source_four n d n d) ts o → o ≡ syntax rest → Stopped rest
  stopped_by o rest is (was_found pre r y e i) h = cc
  stopped_by o rest is (was_syntax pre r e c f) h =
      let b : r ≡ rest = cc in
      let all : ts ≡ pre ++ rest = e ∙ ap (λ v. pre ++ v) b in
      record { before = pre; all = all; viable = record { n = suc n; d = suc d; begins = f }; shallow = c; dead = dead_by pre rest all (is ∙ h) }
  stopped_by o rest is (was_nested pre t r e c f) h = cc

  -- where reading stops
  pub whole_stops : (rest : List Lexeme) → whole n d ts ≡ syntax rest → Stopped rest
  whole_stops rest h = stopped_by (whole n d ts) rest refl ((whole_reader n d n d).verdict ts) h

  pub record Dived (rest : List Lexeme) : Type 0 where
    pub before : List Lexeme
    pub t : Lexeme
    pub others : List Lexeme
    pub is : rest ≡ t ∷ others
    pub all : ts ≡ before ++ t ∷ others
    pub viable : Viable (before ++ t ∷ [])
    pub shallow : Begins (IsCut n d) before
    pub deep : Begins (IsCut n d) (before ++ t ∷ []) → ⊥

  deep_by : (pre : List Lexeme) (t : Lexeme) (us : List Lexeme) → ts ≡ pre ++ t ∷ us → whole n d ts ≡ nested (t ∷ us) → Begins (IsCut n d) (pre ++ t ∷ []) → ⊥
  deep_by pre t us e h b =
      let i = subst (λ w. IsCut n d w b.x) (append_assoc pre (t ∷ []) b.others) b.is in
      let f = (whole_reader n d n d).steady.local t us b.others (pre ++ t ∷ us) (pre ++ t ∷ b.others) (agree_behind t us b.others pre) in
      let g = nested_stays t us b.others (whole n d (pre ++ t ∷ us)) (whole n d (pre ++ t ∷ b.others)) f (ap (whole n d) (sym e) ∙ h) in
      no_nested (whole n d (pre ++ t ∷ b.others)) b.x g.0 (cuts n d (pre ++ t ∷ b.others) b.x i) g.1

  dived_by : (o : Outcome Source) (rest : List Lexeme) → whole n d ts ≡ o → Verdict (source_four n d n d) ts o → o ≡ nested rest → Dived rest
  dived_by o rest is (was_found pre r y e i) h = cc
  dived_by o rest is (was_syntax pre r e c f) h = cc
  dived_by o rest is (was_nested pre t r e c f) h =
      let b : t ∷ r ≡ rest = cc in
      record { before = pre; t = t; others = r; is = sym b; all = e; viable = record { n = suc n; d = suc d; begins = f }; shallow = c; deep = deep_by pre t r e is }

  -- where it opens too much
  pub whole_dives : (rest : List Lexeme) → whole n d ts ≡ nested rest → Dived rest
  whole_dives rest h = dived_by (whole n d ts) rest refl ((whole_reader n d n d).verdict ts) h
