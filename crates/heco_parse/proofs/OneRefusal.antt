-- A text that has no tree breaks one rule of reading first, at one place.
use Rattle.std.proofs.Common.{◌≡◌, ◌≢◌, ◌∙◌, ◌⊎◌, inl, inr, refl, sym, ap, subst, ℕ, ◌≤◌, List, [], ◌∷◌, ◌++◌, append_assoc, arith, length}
use Rattle.std.specs.Prelude.{Result, Ok, Err, IfOk, IfErr}
use Rattle.heco_lex.proofs.OneRefusal.{one_bad_place}
use Rattle.heco_lex.proofs.Unique.{one_split}
use Rattle.heco_lex.specs.Splits.{Splits}
use Rattle.heco_lex.specs.Steps.{IsBadPlace}
use Rattle.heco_lex.specs.declared.place.Place.{Place}
use Rattle.heco_lex.specs.declared.rule.Rule.{Rule}
use Rattle.heco_lex.specs.declared.rule.Rule.TheVariants as rule
use Rattle.heco_lex.specs.declared.token.Token.{Token}
use Rattle.heco_syntax.specs.Lexemes.{lexemes_of}
use Rattle.heco_syntax.specs.Limits.{Begins, Shallow, Viable, AreDead}
use Rattle.heco_syntax.specs.Sources.{IsSource}
use Rattle.heco_syntax.specs.declared.lexeme.Lexeme.{Lexeme}
use Rattle.heco_syntax.specs.declared.tree.Source.{Source}
use Rattle.heco_parse.specs.Trees.{source_limit, place_or_end, IsStopped, IsTooDeep, IsTree, IsRefused}
use Rattle.heco_parse.specs.declared.read.ParseErr.{ParseErr}
use Rattle.heco_parse.specs.declared.read.ParseErr.TheVariants as e
use Rattle.heco_parse.proofs.Reread.{not_refused}

-- ---- two fronts of the same tokens

-- the second front goes on behind the first
record Longer (a r b s : List Lexeme) : Type 0 where
  t : Lexeme
  us : List Lexeme
  front : b ≡ a ++ t ∷ us
  rest : r ≡ t ∷ (us ++ s)

next_longer : (t : Lexeme) (a r b s : List Lexeme) → Longer a r b s → Longer (t ∷ a) r (t ∷ b) s
next_longer t a r b s l = record { t = l.t; us = l.us; front = ap (λ v. t ∷ v) l.front; rest = l.rest }

compare : (a r b s : List Lexeme) → a ++ r ≡ b ++ s → ((a ≡ b) × (r ≡ s)) ⊎ (Longer a r b s ⊎ Longer b s a r)
compare [] r [] s e = inl (refl, e)
compare [] r (t ∷ us) s e = inr (inl (record { t = t; us = us; front = refl; rest = e }))
compare (t ∷ us) r [] s e = inr (inr (record { t = t; us = us; front = refl; rest = sym e }))
compare (x ∷ a) r (y ∷ b) s e =
    let same : x ≡ y = cc in
    let rest : a ++ r ≡ b ++ s = cc in
    elim (compare a r b s rest) [
      | inl h ↦ inl (ap (λ v. x ∷ v) h.0 ∙ ap (λ z. z ∷ b) same, h.1)
      | inr u ↦ elim u [
        | inl l ↦ inr (inl (subst (λ z. Longer (x ∷ a) r (z ∷ b) s) same (next_longer x a r b s l)))
        | inr l ↦ inr (inr (subst (λ z. Longer (z ∷ b) s (x ∷ a) r) same (next_longer x b s a r l)))
      ]
    ]

-- ---- fronts of tokens that begin a source

begins_front : {A : Type 0} (Is : List Lexeme → A → Type 0) (a us : List Lexeme) → Begins Is (a ++ us) → Begins Is a
begins_front Is a us b = record { others = us ++ b.others; x = b.x; is = subst (λ v. Is v b.x) (append_assoc a us b.others) b.is }

begins_next : {A : Type 0} (Is : List Lexeme → A → Type 0) (a : List Lexeme) (t : Lexeme) (us : List Lexeme) → Begins Is (a ++ t ∷ us) → Begins Is (a ++ t ∷ [])
begins_next Is a t us b = begins_front Is (a ++ t ∷ []) us (subst (Begins Is) (sym (append_assoc a (t ∷ []) us)) b)

viable_front : (a us : List Lexeme) → Viable (a ++ us) → Viable a
viable_front a us v = record { n = v.n; d = v.d; begins = begins_front _ a us v.begins }

viable_next : (a : List Lexeme) (t : Lexeme) (us : List Lexeme) → Viable (a ++ t ∷ us) → Viable (a ++ t ∷ [])
viable_next a t us v = record { n = v.n; d = v.d; begins = begins_next _ a t us v.begins }

-- what stops behind a front stops a longer one
not_past : (a r b s : List Lexeme) → Longer a r b s → AreDead a r → Viable b → ⊥
not_past a r b s l dead v = subst (AreDead a) l.rest dead (viable_next a l.t l.us (subst Viable l.front v))

-- and so does a token that opens too much
not_deeper : (a : List Lexeme) (t : Lexeme) (rest b s : List Lexeme) → Longer a (t ∷ rest) b s → (Shallow (a ++ t ∷ []) → ⊥) → Shallow b → ⊥
not_deeper a t rest b s l deep shallow =
    let same : t ≡ l.t = (let all : t ∷ rest ≡ l.t ∷ (l.us ++ s) = l.rest in cc) in
    deep (subst (λ z. Shallow (a ++ z ∷ [])) (sym same) (begins_next _ a l.t l.us (subst Shallow l.front shallow)))

-- ---- the first break is one

module _ (text : List ℕ) (ts : List Lexeme) (p q : Place) where
  stops_once : IsStopped text ts p → IsStopped text ts q → p ≡ q
  stops_once a b = elim (compare a.before a.rest b.before b.rest (sym a.all ∙ b.all)) [
    | inl h ↦ a.place ∙ ap (place_or_end text) h.1 ∙ sym b.place
    | inr u ↦ elim u [ inl l ↦ absurd (not_past _ _ _ _ l a.stops.dead b.stops.viable) | inr l ↦ absurd (not_past _ _ _ _ l b.stops.dead a.stops.viable) ]
  ]

  dives_once : IsTooDeep ts p → IsTooDeep ts q → p ≡ q
  dives_once a b = elim (compare a.before (a.t ∷ a.rest) b.before (b.t ∷ b.rest) (sym a.all ∙ b.all)) [
    | inl h ↦ a.place ∙ ap (place_or_end text) h.1 ∙ sym b.place
    | inr u ↦ elim u [ inl l ↦ absurd (not_deeper _ _ _ _ _ l a.dives.deep b.dives.shallow) | inr l ↦ absurd (not_deeper _ _ _ _ _ l b.dives.deep a.dives.shallow) ]
  ]

  never_both : IsStopped text ts p → IsTooDeep ts q → ⊥
  never_both a b = elim (compare a.before a.rest b.before (b.t ∷ b.rest) (sym a.all ∙ b.all)) [
    | inl h ↦ subst (AreDead a.before) h.1 a.stops.dead (subst (λ v. Viable (v ++ b.t ∷ [])) (sym h.0) b.dives.viable)
    | inr u ↦ elim u [
      | inl l ↦ not_past _ _ _ _ l a.stops.dead (viable_front b.before (b.t ∷ []) b.dives.viable)
      | inr l ↦ not_deeper _ _ _ _ _ l b.dives.deep a.stops.shallow
    ]
  ]

-- a refusal at a place: a bad byte, or the tokens of the text with what breaks them
data Break (text : List ℕ) : Rule → Place → Type 0 where
  at_byte : {p : Place} → IsBadPlace text p → Break text rule.BadByte p
  at_stop : {p : Place} (ts : List Token) → Splits 0 text ts → IsStopped text (lexemes_of text ts) p → Break text rule.Syntax p
  at_dive : {p : Place} (ts : List Token) → Splits 0 text ts → IsTooDeep (lexemes_of text ts) p → Break text rule.TooNested p

break_of : (text : List ℕ) (r : Rule) (p : Place) → IsRefused text (e.At r p) → Break text r p
break_of text rule.BadByte p h = at_byte h
break_of text rule.Syntax p h = at_stop h.tokens h.split h.why
break_of text rule.TooNested p h = at_dive h.tokens h.split h.why
break_of text r p h = absurd h.why

one_break : (text : List ℕ) (r s : Rule) (p q : Place) → Break text r p → Break text s q → e.At r p ≡ e.At s q
one_break text r s p q (at_byte a) (at_byte b) = ap (λ z. e.At rule.BadByte z) (one_bad_place text p q a b)
one_break text r s p q (at_byte a) (at_stop us v b) = absurd (a.no_split us v)
one_break text r s p q (at_byte a) (at_dive us v b) = absurd (a.no_split us v)
one_break text r s p q (at_stop ts u a) (at_byte b) = absurd (b.no_split ts u)
one_break text r s p q (at_stop ts u a) (at_stop us v b) =
    ap (λ z. e.At rule.Syntax z) (stops_once text (lexemes_of text ts) p q a (subst (λ ws. IsStopped text (lexemes_of text ws) q) (one_split v u) b))
one_break text r s p q (at_stop ts u a) (at_dive us v b) = absurd (never_both text (lexemes_of text ts) p q a (subst (λ ws. IsTooDeep (lexemes_of text ws) q) (one_split v u) b))
one_break text r s p q (at_dive ts u a) (at_byte b) = absurd (b.no_split ts u)
one_break text r s p q (at_dive ts u a) (at_stop us v b) = absurd (never_both text (lexemes_of text us) q p b (subst (λ ws. IsTooDeep (lexemes_of text ws) p) (one_split u v) a))
one_break text r s p q (at_dive ts u a) (at_dive us v b) =
    ap (λ z. e.At rule.TooNested z) (dives_once text (lexemes_of text ts) p q a (subst (λ ws. IsTooDeep (lexemes_of text ws) q) (one_split v u) b))

pub one_refusal_at : (text : List ℕ) (r s : Rule) (p q : Place) → IsRefused text (e.At r p) → IsRefused text (e.At s q) → e.At r p ≡ e.At s q
one_refusal_at text r s p q a b = one_break text r s p q (break_of text r p a) (break_of text s q b)

-- the tree of the lexemes of a text is the text's
pub tree_found : (text : List ℕ) (tokens : List Token) (ls : List Lexeme) (r : Result Source ParseErr) → Splits 0 text tokens → ls ≡ lexemes_of text tokens → IfOk r (IsSource 64 8 ls) → IfOk r (IsTree text)
tree_found text tokens ls (Ok x) split same is = record { tokens = tokens; split = split; is = subst (λ v. IsSource 64 8 v x) same is }
tree_found text tokens ls (Err refusal) split same is = tt

pub refuses : (text : List ℕ) (res : Result Source ParseErr) → IfOk res (IsTree text) → IfErr res (IsRefused text) → (err : ParseErr) → err ≢ e.Memory → length text ≤ source_limit → IsRefused text err
    → (res ≡ Err err) ⊎ (res ≡ Err e.Memory)
refuses text res tree refused e.Memory real short is = absurd (real refl)
refuses text res tree refused e.SourceLong real short is = absurd (omega arith)
refuses text (Ok x) tree refused (e.At s q) real short is = absurd (real (not_refused text tree.tokens x tree.split tree.is short (e.At s q) is))
refuses text (Err e.SourceLong) tree refused (e.At s q) real short is = absurd (omega arith)
refuses text (Err e.Memory) tree refused (e.At s q) real short is = inr refl
refuses text (Err (e.At r p)) tree refused (e.At s q) real short is = inl (ap Err (one_refusal_at text r s p q refused is))
