-- The tokens of the source, as a function on texts finds them.
use Rattle.std.proofs.Common.{◌≡◌, ◌<◌, ◌+◌, ◌-◌, ℕ, zero, suc, Bool, true, false, List, [], ◌∷◌, Option, Some, None, refl, ap, subst, arith, length, take, drop, get_or, min}
use Rattle.std.specs.Prelude.{cond, unwrap_or}
use Rattle.heco_nums.specs.Words.{is_letter, is_word_byte}
use Rattle.heco_lex.proofs.Fronts.{word_front, number_front, sign_longest}
use Rattle.heco_lex.specs.Kinds.{is_blank, is_digit, word_kind}
use Rattle.heco_lex.specs.Pieces.{IsRun, sign_front}
use Rattle.heco_lex.specs.Splits.{IsLongest, Splits, nothing, blank, token, token_at}
use Rattle.heco_lex.specs.declared.token.Token.{Token}
use Rattle.heco_lex.specs.declared.token.TokenKind.{TokenKind}
use Rattle.heco_lex.specs.declared.token.TokenKind.TheVariants as k
use Rattle.heco_sample_source.specs.SampleText.{sample_text}

-- how many bytes at the front pass the test
abbrev run : (ℕ → Bool) → List ℕ → ℕ
run test [] = 0
run test (c ∷ cs) = cond (test c) (suc (run test cs)) 0

is_run : (test : ℕ → Bool) (cs : List ℕ) → IsRun test cs (run test cs)
is_run test [] = record { within = omega arith; all = λ i lt. absurd (omega arith); ends = λ lt. absurd (omega arith) }
is_run test (c ∷ cs) = by (test c) refl (is_run test cs)
  where
    front_passes : (n : ℕ) → test c ≡ true → ((i : ℕ) → i < n → test (get_or cs i 0) ≡ true) → (i : ℕ) → i < suc n → test (get_or (c ∷ cs) i 0) ≡ true
    front_passes n h all zero lt = h
    front_passes n h all (suc i) lt = all i (omega arith)

    by : (b : Bool) → test c ≡ b → IsRun test cs (run test cs) → IsRun test (c ∷ cs) (cond b (suc (run test cs)) 0)
    by true h r = record { within = (let w = r.within in omega arith); all = front_passes (run test cs) h r.all; ends = λ lt. r.ends (omega arith) }
    by false h r = record { within = omega arith; all = λ i lt. absurd (omega arith); ends = λ lt. h }

-- the kind and the length of the token at the front
abbrev word_or : Bool → Bool → List ℕ → Option (TokenKind × ℕ)
word_or true digit cs = let n = 1 + run is_word_byte (take (length cs - 1) (drop 1 cs)) in Some (word_kind (take n cs), n)
word_or false true cs = Some (k.Number, 1 + run is_digit (take (min (length cs) 10 - 1) (drop 1 cs)))
word_or false false cs = sign_front cs

abbrev front : List ℕ → Option (TokenKind × ℕ)
front cs = word_or (is_letter (get_or cs 0 0)) (is_digit (get_or cs 0 0)) cs

pair_of : {x y : TokenKind} {a b : ℕ} → ◌≡◌ {A = Option (TokenKind × ℕ)} (Some (x, a)) (Some (y, b)) → (x ≡ y) × (a ≡ b)
pair_of {x} {y} {a} {b} h = let p : ◌≡◌ {A = TokenKind × ℕ} (x, a) (y, b) = cc in (ap (λ q. q.0) p, ap (λ q. q.1) p)

front_longest : (cs : List ℕ) (kind : TokenKind) (n : ℕ) → 0 < length cs → front cs ≡ Some (kind, n) → IsLongest cs n kind
front_longest cs kind n some h = by (is_letter (get_or cs 0 0)) refl (is_digit (get_or cs 0 0)) refl h
  where
    by : (w : Bool) → is_letter (get_or cs 0 0) ≡ w → (d : Bool) → is_digit (get_or cs 0 0) ≡ d → word_or w d cs ≡ Some (kind, n) → IsLongest cs n kind
    by true w d e g =
        let p = pair_of g in
        let r = run is_word_byte (take (length cs - 1) (drop 1 cs)) in
        subst (λ m. IsLongest cs m kind) p.1 (subst (λ x. IsLongest cs (1 + r) x) p.0 ((word_front cs r _ some w (is_run is_word_byte _) refl).0))
    by false w true e g =
        let p = pair_of g in
        let r = run is_digit (take (min (length cs) 10 - 1) (drop 1 cs)) in
        subst (λ m. IsLongest cs m kind) p.1 (subst (λ x. IsLongest cs (1 + r) x) p.0 ((number_front cs r (min (length cs) 10) some w e refl (is_run is_digit _)).0))
    by false w false e g = (sign_longest cs kind n w e g).0

-- a token, and those behind it
abbrev behind : ℕ → TokenKind × ℕ → Option (List Token) → Option (List Token)
behind at p None = None
behind at p (Some ts) = Some (token_at at p.1 p.0 ∷ ts)

-- the tokens from an offset on, where so many steps are enough
abbrev found : ℕ → ℕ → List ℕ → Option (List Token)
found zero at cs = None
found (suc steps) at [] = Some []
found (suc steps) at (c ∷ cs) = elim (is_blank c) as (λ b. Option (List Token)) [
  | true ↦ found steps (at + 1) cs
  | false ↦ elim (front (c ∷ cs)) as (λ o. Option (List Token)) [ None ↦ None | Some p ↦ behind at p (found steps (at + p.1) (drop p.1 (c ∷ cs))) ]
]

abbrev from : ℕ → ℕ → List ℕ → Option (TokenKind × ℕ) → Option (List Token)
from steps at cs o = elim o as (λ o. Option (List Token)) [ None ↦ None | Some p ↦ behind at p (found steps (at + p.1) (drop p.1 cs)) ]

-- what so many steps find splits the text
abbrev Finds : ℕ → Type 0
Finds steps = (at : ℕ) (cs : List ℕ) (ts : List Token) → found steps at cs ≡ Some ts → Splits at cs ts

found_splits : (steps : ℕ) → Finds steps
found_splits zero at cs ts h = absurd (let no : ⊥ = cc in no)
found_splits (suc steps) at [] ts h = subst (λ us. Splits at [] us) (let same : [] ≡ ts = cc in same) nothing
found_splits (suc steps) at (c ∷ cs) ts h = by_blank (found_splits steps) (is_blank c) refl h
  where
    by_rest : Finds steps → (p : TokenKind × ℕ) (o : Option (List Token)) → front (c ∷ cs) ≡ Some p → found steps (at + p.1) (drop p.1 (c ∷ cs)) ≡ o → behind at p o ≡ Some ts → Splits at (c ∷ cs) ts
    by_rest less p None f e g = absurd (let no : ⊥ = cc in no)
    by_rest less p (Some us) f e g =
        let same : (token_at at p.1 p.0 ∷ us) ≡ ts = cc in
        subst (λ vs. Splits at (c ∷ cs) vs) same (token (front_longest (c ∷ cs) p.0 p.1 (omega arith) f) (less (at + p.1) (drop p.1 (c ∷ cs)) us e))

    by_front : Finds steps → (o : Option (TokenKind × ℕ)) → front (c ∷ cs) ≡ o → from steps at (c ∷ cs) o ≡ Some ts → Splits at (c ∷ cs) ts
    by_front less None f g = absurd (let no : ⊥ = cc in no)
    by_front less (Some p) f g = by_rest less p (found steps (at + p.1) (drop p.1 (c ∷ cs))) f refl g

    by_blank : Finds steps → (b : Bool) → is_blank c ≡ b → elim b as (λ x. Option (List Token)) [ true ↦ found steps (at + 1) cs | false ↦ from steps at (c ∷ cs) (front (c ∷ cs)) ] ≡ Some ts → Splits at (c ∷ cs) ts
    by_blank less true b g = blank b (less (at + 1) cs ts g)
    by_blank less false b g = by_front less (front (c ∷ cs)) refl g

-- ---- the source's tokens

unfoldable pub tokens : List Token
unfolding sample_text
tokens = unwrap_or (found 200 0 sample_text) []

pub splits : Splits 0 sample_text tokens
unfolding sample_text tokens
splits = found_splits 200 0 sample_text tokens refl
