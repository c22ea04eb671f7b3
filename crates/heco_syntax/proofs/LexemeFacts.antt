-- The loop over the tokens: one step.
use Rattle.std.proofs.Common.{◌≡◌, ◌∙◌, sym, ap, subst, ℕ, suc, ◌+◌, ◌-◌, ◌<◌, ◌≤◌, List, [], ◌∷◌, ◌++◌, arith, length, take, drop, get_or, append_assoc}
use Rattle.std.proofs.lemmas.List.{length-take-le}
use Rattle.std.proofs.Math.Seq.{take-add, drop-cons}
use Rattle.heco_lex.specs.Splits.{AreSpans}
use Rattle.std.specs.Prelude.{count_by, ◌==◌}
use Rattle.heco_lex.specs.Places.{since_line_end, moved, place_in}
use Rattle.heco_lex.specs.declared.place.Place.{Place}
use Rattle.heco_lex.specs.declared.token.Token.{Token}
use Rattle.heco_syntax.specs.Lexemes.{lexeme_of, lexemes_of}
use Rattle.heco_syntax.specs.declared.lexeme.Lexeme.{Lexeme}
use Rattle.heco_syntax.proofs.PlaceFacts.{IsNear, near, moved-append}

-- the first `to` bytes are the first `from` and those between
between : (text : List ℕ) (from to : ℕ) → from ≤ to → take to text ≡ take from text ++ take (to - from) (drop from text)
between text from to le = (let e : to ≡ from + (to - from) = omega arith in ap (λ n. take n text) e) ∙ take-add from (to - from) text

pub next_place : (text : List ℕ) (from to : ℕ) (p q : Place) → from ≤ to → p ≡ place_in text from
    → q.line ≡ p.line + count_by (λ c. c == 10) (take (to - from) (drop from text)) → q.col ≡ 1 + since_line_end (p.col - 1) (take (to - from) (drop from text)) → q ≡ place_in text to
next_place text from to p q le h l c = moved-append (take from text) (take (to - from) (drop from text)) p q h l c ∙ ap moved (sym (between text from to le))

pub near_place : (text : List ℕ) (from : ℕ) (p : Place) → from ≤ length text → p ≡ place_in text from → IsNear p from
near_place text from p le h = subst (λ n. IsNear p n) (length-take-le from text le) (near (take from text) p h)

next_drop : (ts : List Token) (i : ℕ) (d : Token) → i < length ts → drop i ts ≡ get_or ts i d ∷ drop (i + 1) ts
next_drop ts i d lt = drop-cons ts i d lt ∙ ap (λ n. get_or ts i d ∷ drop n ts) (let e : suc i ≡ i + 1 = omega arith in e)

pub first_span : (text : List ℕ) (from : ℕ) (ts : List Token) (i : ℕ) (d : Token) → i < length ts → AreSpans text from (drop i ts) → AreSpans text from (get_or ts i d ∷ drop (i + 1) ts)
first_span text from ts i d lt s = subst (λ v. AreSpans text from v) (next_drop ts i d lt) s

pub one_more : (text : List ℕ) (ts : List Token) (i : ℕ) (d : Token) (old new : List Lexeme) → i < length ts → old ++ lexemes_of text (drop i ts) ≡ lexemes_of text ts → new ≡ old ++ lexeme_of text (get_or ts i d) ∷ []
    → new ++ lexemes_of text (drop (i + 1) ts) ≡ lexemes_of text ts
one_more text ts i d old new lt h e = ap (λ v. v ++ lexemes_of text (drop (i + 1) ts)) e ∙ append_assoc old (lexeme_of text (get_or ts i d) ∷ []) (lexemes_of text (drop (i + 1) ts))
    ∙ ap (λ v. old ++ lexemes_of text v) (sym (next_drop ts i d lt)) ∙ h
