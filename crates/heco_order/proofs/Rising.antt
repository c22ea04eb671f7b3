-- Tokens of a text stand at places that rise, and so does what is picked from them.
use Rattle.std.proofs.Common.{◌≡◌, ◌∙◌, inl, inr, sym, ap, subst, refl, ℕ, zero, suc, ◌+◌, ◌-◌, ◌^◌, ◌<◌, ◌≤◌, Bool, true, false, List, [], ◌∷◌, ◌++◌, Some, arith, length, take, drop}
use Rattle.std.specs.Prelude.{◌==◌, if◌then◌else◌, count_by}
use Rattle.std.proofs.lemmas.List.{length-take-le, length-drop}
use Rattle.std.proofs.Math.Seq.{take-add}
use Rattle.heco_nums.specs.Words.{is_word}
use Rattle.heco_lex.specs.Places.{since_line_end, moved, place_in}
use Rattle.heco_lex.specs.Splits.{AreSpans, slice_of}
use Rattle.heco_lex.specs.declared.place.Place.{Place}
use Rattle.heco_lex.specs.declared.token.Token.{Token}
use Rattle.heco_lex.specs.declared.token.TokenKind.TheVariants as k
use Rattle.heco_syntax.proofs.KindFacts.{word_is_word}
use Rattle.heco_syntax.proofs.PlaceFacts.{since-append, lines-append}
use Rattle.heco_syntax.proofs.PlaceOrder.{before_trans}
use Rattle.heco_syntax.specs.Kept.{Kept, Before, RiseFrom, AreRising, AllNamed}
use Rattle.heco_syntax.specs.Lexemes.{lexemes_of, text_of}
use Rattle.heco_syntax.specs.declared.lexeme.Lexeme.{Lexeme}
use Rattle.heco_order.proofs.Picked.{Picks, ended, skip, pick}

no_line : (n : ℕ) (cs : List ℕ) → count_by (λ c. c == 10) cs ≡ 0 → since_line_end n cs ≡ n + length cs
no_line n [] h = omega arith
no_line n (c ∷ cs) h = by (c == 10) (no_line (n + 1) cs) (sym (lines-append (c ∷ []) cs) ∙ h)
  where
    by : (b : Bool) → (count_by (λ d. d == 10) cs ≡ 0 → since_line_end (n + 1) cs ≡ n + 1 + length cs) → 0 + (if b then 1 else 0) + count_by (λ d. d == 10) cs ≡ 0 → (if b then since_line_end 0 cs else since_line_end (n + 1) cs) ≡ n + suc (length cs)
    by true r g = absurd (omega arith)
    by false r g = let e : since_line_end (n + 1) cs ≡ n + 1 + length cs = r (omega arith) in omega arith

moved_before : (xs ys : List ℕ) → 0 < length ys → Before (moved xs) (moved (xs ++ ys))
moved_before xs ys some = by (count_by (λ c. c == 10) ys) refl
  where
    by : (n : ℕ) → count_by (λ c. c == 10) ys ≡ n → Before (moved xs) (moved (xs ++ ys))
    by zero h = inr (
      (let l = lines-append xs ys in omega arith),
      (let a = since-append 0 xs ys in let b = no_line (since_line_end 0 xs) ys h in omega arith),
    )
    by (suc n) h = inl (let l = lines-append xs ys in omega arith)

pub place_before : (text : List ℕ) (a b : ℕ) → a < b → b ≤ length text → Before (place_in text a) (place_in text b)
place_before text a b lt le =
    let e : a + (b - a) ≡ b = omega arith in
    let some : length (take (b - a) (drop a text)) ≡ b - a = length-take-le (b - a) (drop a text) (omega (arith, length-drop a text)) in
    let both : take b text ≡ take a text ++ take (b - a) (drop a text) = ap (λ n. take n text) (sym e) ∙ take-add a (b - a) text in
    subst (λ v. Before (place_in text a) (moved v)) (sym both) (moved_before (take a text) (take (b - a) (drop a text)) (omega arith))

rise_later : (p q : Place) (xs : List Kept) → Before p q → RiseFrom q xs → RiseFrom p xs
rise_later p q [] h r = tt
rise_later p q (x ∷ xs) h r = (before_trans p q x.at h r.0, r.1)

-- the tokens stand behind the place, one behind another
abbrev Stand : Place → List Lexeme → Type 0
Stand p [] = Unit {0}
Stand p (t ∷ ts) = Before p t.at × Stand t.at ts

picked_rise : {ts : List Lexeme} {xs : List Kept} (p : Place) → Picks ts xs → Stand p ts → RiseFrom p xs
picked_rise p ended s = tt
picked_rise p (skip {t = t} {xs = xs} q) s = rise_later p t.at xs s.0 (picked_rise t.at q s.1)
picked_rise p (pick {t = t} {x = x} {xs = xs} h q) s = (subst (λ (v : Place). Before p v) (sym h.at) s.0, subst (λ (v : Place). RiseFrom v xs) (sym h.at) (picked_rise t.at q s.1))

stand_from : (text : List ℕ) (from at : ℕ) (ts : List Token) → from < at → AreSpans text at ts → Stand (place_in text from) (lexemes_of text ts)
stand_from text from at [] lt s = tt
stand_from text from at (t ∷ ts) lt s =
    let far = s.0 in let some = s.1 in let within = s.2 in
    (place_before text from t.from (omega arith) (omega arith), stand_from text t.from t.to ts some s.4)

stand : (text : List ℕ) (at : ℕ) (ts : List Token) → AreSpans text at ts → Stand (record { line = 0; col = 0 }) (lexemes_of text ts)
stand text at [] s = tt
stand text at (t ∷ ts) s = (inl (omega arith), stand_from text t.from t.to ts s.1 s.4)

all_rise : (p : Place) (xs : List Kept) → RiseFrom p xs → AreRising xs
all_rise p [] h = tt
all_rise p (x ∷ xs) h = h.1

pub rising : (text : List ℕ) (at : ℕ) (ts : List Token) (xs : List Kept) → AreSpans text at ts → Picks (lexemes_of text ts) xs → AreRising xs
rising text at ts xs s p = all_rise (record { line = 0; col = 0 }) xs (picked_rise (record { line = 0; col = 0 }) p (stand text at ts s))

-- a word among the tokens is a Word of at most 2^20 bytes
abbrev IsShortWord : Lexeme → Type 0
IsShortWord t = t.kind ≡ k.Word → (is_word t.text ≡ true) × (length t.text ≤ 2 ^ 20)

abbrev Words : List Lexeme → Type 0
Words [] = Unit {0}
Words (t ∷ ts) = IsShortWord t × Words ts

short_slice : (text : List ℕ) (t : Token) → t.from < t.to → t.to ≤ length text → length (slice_of text t) ≤ length text
short_slice text t lt le = let e = length-take-le (t.to - t.from) (drop t.from text) (omega (arith, length-drop t.from text)) in omega arith

words : (text : List ℕ) (at : ℕ) (ts : List Token) → length text ≤ 2 ^ 20 → AreSpans text at ts → Words (lexemes_of text ts)
words text at [] short s = tt
words text at (t ∷ ts) short s = (
  (λ h.
      let e : text_of t.kind (slice_of text t) ≡ slice_of text t = ap (λ v. text_of v (slice_of text t)) h in
      let w : is_word (slice_of text t) ≡ true = word_is_word (slice_of text t) (s.3 ∙ ap (λ v. Some v) h) in
      let n = short_slice text t s.1 s.2 in
      (ap is_word e ∙ w, subst (λ v. length v ≤ 2 ^ 20) (sym e) (omega arith))),
  words text t.to ts short s.4,
)

picked_named : {ts : List Lexeme} {xs : List Kept} → Picks ts xs → Words ts → AllNamed xs
picked_named ended w = tt
picked_named (skip p) w = picked_named p w.1
picked_named (pick {t = t} {x = x} h p) w = (
  (λ text e.
      let n = h.name text e in
      subst (λ v. (is_word v ≡ true) × (length v ≤ 2 ^ 20)) n.1 (w.0 n.0)),
  picked_named p w.1,
)

pub named : (text : List ℕ) (at : ℕ) (ts : List Token) (xs : List Kept) → length text ≤ 2 ^ 20 → AreSpans text at ts → Picks (lexemes_of text ts) xs → AllNamed xs
named text at ts xs short s p = picked_named p (words text at ts short s)
