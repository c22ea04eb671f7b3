-- Texts of tokens with a space between split into these tokens.
use Rattle.std.proofs.Common.{◌≡◌, ◌∙◌, sym, ap, subst, refl, ℕ, zero, suc, ◌+◌, ◌<◌, Bool, true, false, List, [], ◌∷◌, ◌++◌, Some, None, arith, take, length, length-append}
use Rattle.std.specs.Prelude.{◌&&◌, ◌==◌}
use Rattle.std.specs.List.{list_all}
use Rattle.std.proofs.lemmas.List.{take_at, drop_at}
use Rattle.heco_lex.specs.Kinds.{is_blank, is_digit, kind_of, sign_kind, sign_of_two}
use Rattle.heco_nums.specs.Words.{is_letter, is_word_byte}
use Rattle.heco_lex.specs.Splits.{IsLongest, Splits, nothing, blank, token}
use Rattle.heco_lex.specs.Spaced.{Spelling, spaced, spaced_tokens}
use Rattle.heco_lex.specs.declared.token.TokenKind.{TokenKind}

and_false : (b : Bool) → (b && false) ≡ false
and_false true = refl
and_false false = refl

-- a space or a line end
data IsGap : ℕ → Type 0 where
  space : IsGap 32
  line : IsGap 10

no_word : (p : ℕ → Bool) (c : ℕ) → p c ≡ false → (w v : List ℕ) → list_all p (w ++ c ∷ v) ≡ false
no_word p c h [] v = rw h refl
no_word p c h (d ∷ w) v = by (p d) (no_word p c h w v)
  where
    by : (b : Bool) → list_all p (w ++ c ∷ v) ≡ false → (b && list_all p (w ++ c ∷ v)) ≡ false
    by true e = e
    by false e = refl

gap_word : {c : ℕ} → IsGap c → is_word_byte c ≡ false
gap_word space = refl
gap_word line = refl

gap_digit : {c : ℕ} → IsGap c → is_digit c ≡ false
gap_digit space = refl
gap_digit line = refl

gap_blank : {c : ℕ} → IsGap c → is_blank c ≡ true
gap_blank space = refl
gap_blank line = refl

gap_two : {c : ℕ} → IsGap c → (d : ℕ) → sign_of_two d c ≡ None
gap_two space d = rw (and_false (d == 46), and_false (d == 43), and_false (d == 45), and_false (d == 42)) refl
gap_two line d = rw (and_false (d == 46), and_false (d == 43), and_false (d == 45), and_false (d == 42)) refl

gap_sign : {c : ℕ} → IsGap c → (d : ℕ) (w v : List ℕ) → sign_kind (d ∷ (w ++ c ∷ v)) ≡ None
gap_sign g d [] [] = gap_two g d
gap_sign g d [] (x ∷ v) = refl
gap_sign g d (y ∷ []) v = refl
gap_sign g d (y ∷ z ∷ w) v = refl

gap_inside : {c : ℕ} → IsGap c → (d : ℕ) (w v : List ℕ) → kind_of (d ∷ (w ++ c ∷ v)) ≡ None
gap_inside {c} g d w v = by (is_letter d) refl (is_digit d) refl
  where
    by : (a : Bool) → is_letter d ≡ a → (b : Bool) → is_digit d ≡ b → kind_of (d ∷ (w ++ c ∷ v)) ≡ None
    by true h b i = rw (h, no_word is_word_byte c (gap_word g) w v) refl
    by false h true i = rw (h, i, no_word is_digit c (gap_digit g) w v) refl
    by false h false i = rw (h, i) (gap_sign g d w v)

take_past : (w : List ℕ) (c : ℕ) (v : List ℕ) (m : ℕ) → length w < m → (k : List ℕ) × (take m (w ++ c ∷ v) ≡ w ++ c ∷ k)
take_past [] c v zero lt = absurd (omega arith)
take_past [] c v (suc m) lt = (take m v, refl)
take_past (d ∷ w) c v zero lt = absurd (omega arith)
take_past (d ∷ w) c v (suc m) lt = let r = take_past w c v m (omega arith) in (r.0, ap (λ x. d ∷ x) r.1)

longest_before : {c : ℕ} → IsGap c → (w v : List ℕ) (kind : TokenKind) → kind_of w ≡ Some kind → IsLongest (w ++ c ∷ v) (length w) kind
longest_before g [] v kind h = cc
longest_before {c} g (d ∷ w) v kind h = record {
  within = omega (arith, length-append (d ∷ w) (c ∷ v));
  is_token = ap kind_of (take_at (d ∷ w) (c ∷ v) (length (d ∷ w)) refl) ∙ h;
  longest = λ m lt le. (let r = take_past (d ∷ w) c v m lt in ap kind_of r.1 ∙ gap_inside g d w r.0);
}

record Front (ps : List Spelling) : Type 0 where
  c : ℕ
  v : List ℕ
  is : spaced ps ≡ c ∷ v
  gap : IsGap c

front : (ps : List Spelling) → Front ps
front [] = record { c = 10; v = []; is = refl; gap = line }
front (p ∷ ps) = record { c = 32; v = p.text ++ spaced ps; is = refl; gap = space }

pub spaced_splits : (at : ℕ) (ps : List Spelling) → Splits at (spaced ps) (spaced_tokens at ps)
spaced_splits at [] = blank refl nothing
spaced_splits at (p ∷ ps) =
    let f = front ps in
    blank refl (token (subst (λ x. IsLongest (p.text ++ x) (length p.text) p.kind) (sym f.is) (longest_before f.gap p.text f.v p.kind p.fits))
    (subst (λ x. Splits (at + 1 + length p.text) x (spaced_tokens (at + 1 + length p.text) ps)) (sym (drop_at p.text (spaced ps) (length p.text) refl)) (spaced_splits (at + 1 + length p.text) ps)))
