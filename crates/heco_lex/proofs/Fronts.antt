-- What the code finds at the front of a text is the longest token, or there is none.
use Rattle.std.proofs.Common.{◌≡◌, ◌∙◌, ◌⊎◌, inl, inr, sym, ap, subst, refl, ℕ, zero, suc, ◌+◌, ◌-◌, ◌<◌, ◌≤◌, Bool, true, false, List, [], ◌∷◌, Some, None, Option, arith, take, drop, length, get_or, min}
use Rattle.std.specs.List.{list_all}
use Rattle.std.specs.Prelude.{nat_lt, ◌&&◌}
use Rattle.std.proofs.lemmas.List.{take_all, length-take-le, get_or-take}
use Rattle.std.proofs.lemmas.List.Folds.{list_all_at}
use Rattle.std.proofs.lemmas.Bool.Decides.{nat_tests}
use Rattle.heco_lex.specs.Kinds.{is_blank, is_digit, kind_of, word_kind, sign_kind, sign_of_one, sign_of_two}
use Rattle.heco_nums.specs.Words.{is_letter, is_word_byte}
use Rattle.heco_lex.specs.Splits.{IsLongest, IsBad, begins_comment, line_rest}
use Rattle.heco_lex.specs.Pieces.{IsRun, sign_or, sign_front}
use Rattle.heco_lex.specs.declared.token.TokenKind.{TokenKind}
use Rattle.heco_lex.specs.declared.token.TokenKind.TheVariants as k

all_taken : (p : ℕ → Bool) (xs : List ℕ) (r : ℕ) → r ≤ length xs → ((i : ℕ) → i < r → p (get_or xs i 0) ≡ true) → list_all p (take r xs) ≡ true
all_taken p xs zero le h = refl
all_taken p [] (suc r) le h = absurd (omega arith)
all_taken p (x ∷ xs) (suc r) le h =
    let first : p x ≡ true = h 0 (omega arith) in
    rw first (all_taken p xs r (omega arith) (λ i lt. h (suc i) (omega arith)))

not_all_taken : (p : ℕ → Bool) (xs : List ℕ) (r m : ℕ) → r < m → m ≤ length xs → p (get_or xs r 0) ≡ false → list_all p (take m xs) ≡ false
not_all_taken p xs r m lt le h =
    let len : length (take m xs) ≡ m = length-take-le m xs le in
    list_all_at p (take m xs) r 0 (omega arith) (ap p (get_or-take m xs r 0 lt) ∙ h)

letter_kind : (c : ℕ) (w : List ℕ) → is_letter c ≡ true → list_all is_word_byte w ≡ true → kind_of (c ∷ w) ≡ Some (word_kind (c ∷ w))
letter_kind c w e a = rw (e, a) refl

letter_none : (c : ℕ) (w : List ℕ) → is_letter c ≡ true → list_all is_word_byte w ≡ false → kind_of (c ∷ w) ≡ None
letter_none c w e a = rw (e, a) refl

digit_kind : (c : ℕ) (w : List ℕ) → is_letter c ≡ false → is_digit c ≡ true → list_all is_digit w ≡ true → nat_lt (length w) 10 ≡ true → kind_of (c ∷ w) ≡ Some k.Number
digit_kind c w n e a b = rw (n, e, a, b) refl

digit_none : (c : ℕ) (w : List ℕ) → is_letter c ≡ false → is_digit c ≡ true → (list_all is_digit w && nat_lt (length w) 10) ≡ false → kind_of (c ∷ w) ≡ None
digit_none c w n e a = rw (n, e, a) refl

sign_is : (c : ℕ) (w : List ℕ) → is_letter c ≡ false → is_digit c ≡ false → kind_of (c ∷ w) ≡ sign_kind (c ∷ w)
sign_is c w n e = rw (n, e) refl

and_false : (b : Bool) → (b && false) ≡ false
and_false true = refl
and_false false = refl

below_ten : (n : ℕ) → n ≤ 9 → nat_lt n 10 ≡ true
below_ten n h = grind (arith, nat_tests)

ten_more : (n : ℕ) → 10 ≤ n → nat_lt n 10 ≡ false
ten_more n h = grind (arith, nat_tests)

rest_run : (p : ℕ → Bool) (c : ℕ) (w : List ℕ) (r : ℕ) → IsRun p (take (length (c ∷ w) - 1) (drop 1 (c ∷ w))) r → IsRun p w r
rest_run p c w r run = subst (λ v. IsRun p v r) (take_all (length (c ∷ w) - 1) w (omega arith)) run

pub word_front : (text : List ℕ) (r : ℕ) (kind : TokenKind) → 0 < length text → is_letter (get_or text 0 0) ≡ true → IsRun is_word_byte (take (length text - 1) (drop 1 text)) r
    → kind ≡ word_kind (take (1 + r) text) → IsLongest text (1 + r) kind × (0 < 1 + r)
word_front [] r kind h e run same = absurd (omega arith)
word_front (c ∷ w) r kind h e run same =
    let run' : IsRun is_word_byte w r = rest_run is_word_byte c w r run in
    let one : suc r ≡ 1 + r = omega arith in
    let same' : kind ≡ word_kind (c ∷ take r w) = subst (λ m. kind ≡ word_kind (take m (c ∷ w))) (sym one) same in
    let within : r ≤ length w = run'.within in (
      record {
        within = omega arith;
        is_token = subst (λ m. kind_of (take m (c ∷ w)) ≡ Some kind) one (letter_kind c (take r w) e (all_taken is_word_byte w r within run'.all) ∙ ap Some (sym same'));
        longest = longer r w within run'.ends;
      },
      omega arith,
    )
  where
    longer : (r : ℕ) (w : List ℕ) → r ≤ length w → (r < length w → is_word_byte (get_or w r 0) ≡ false) → (m : ℕ) → 1 + r < m → m ≤ length (c ∷ w) → kind_of (take m (c ∷ w)) ≡ None
    longer r w within ends zero lt le = absurd (omega arith)
    longer r w within ends (suc m) lt le = letter_none c (take m w) e (not_all_taken is_word_byte w r m (omega arith) (omega arith) (ends (omega arith)))

cases_lt : (a b : ℕ) → (a < b) ⊎ (b ≤ a)
cases_lt zero zero = inr (omega arith)
cases_lt zero (suc b) = inl (omega arith)
cases_lt (suc a) zero = inr (omega arith)
cases_lt (suc a) (suc b) = elim (cases_lt a b) [ inl h ↦ inl (omega arith) | inr h ↦ inr (omega arith) ]

-- the first digit, and a run of digits among the next nine bytes
pub number_front : (text : List ℕ) (r n : ℕ) → 0 < length text → is_letter (get_or text 0 0) ≡ false → is_digit (get_or text 0 0) ≡ true
    → n ≡ min (length text) 10 → IsRun is_digit (take (n - 1) (drop 1 text)) r → IsLongest text (1 + r) k.Number × (0 < 1 + r)
number_front [] r n h e d same run = absurd (omega arith)
number_front (c ∷ w) r n h e d same run =
    let one : suc r ≡ 1 + r = omega arith in
    let front : length (take (n - 1) w) ≡ n - 1 = length-take-le (n - 1) w (omega arith) in
    let within : r ≤ length (take (n - 1) w) = run.within in
    let len : length (take r w) ≡ r = length-take-le r w (omega arith) in
    let short : nat_lt (length (take r w)) 10 ≡ true = below_ten (length (take r w)) (omega arith) in
    let digits : list_all is_digit (take r w) ≡ true = all_taken is_digit w r (omega arith) (λ i lt. ap is_digit (sym (get_or-take (n - 1) w i 0 (omega arith))) ∙ run.all i lt) in (
      record {
        within = omega arith;
        is_token = subst (λ m. kind_of (take m (c ∷ w)) ≡ Some k.Number) one (digit_kind c (take r w) e d digits short);
        longest = longer front within run.ends;
      },
      omega arith,
    )
  where
    longer : length (take (n - 1) w) ≡ n - 1 → r ≤ length (take (n - 1) w) → (r < length (take (n - 1) w) → is_digit (get_or (take (n - 1) w) r 0) ≡ false)
        → (m : ℕ) → 1 + r < m → m ≤ length (c ∷ w) → kind_of (take m (c ∷ w)) ≡ None
    longer front within ends zero lt le = absurd (omega arith)
    longer front within ends (suc m) lt le = digit_none c (take m w) e d (elim (cases_lt r (n - 1)) [
      | inl small ↦ (let ended : is_digit (get_or w r 0) ≡ false = ap is_digit (sym (get_or-take (n - 1) w r 0 small)) ∙ ends (omega arith) in
          let bad : list_all is_digit (take m w) ≡ false = not_all_taken is_digit w r m (omega arith) (omega arith) ended in rw bad refl)
      | inr large ↦ (let len : length (take m w) ≡ m = length-take-le m w (omega arith) in
          let long : nat_lt (length (take m w)) 10 ≡ false = ten_more (length (take m w)) (omega arith) in
          rw long (and_false (list_all is_digit (take m w))))
    ])

long_sign : (c d : ℕ) (cs : List ℕ) (m : ℕ) → is_letter c ≡ false → is_digit c ≡ false → 2 < m → m ≤ length (c ∷ d ∷ cs) → kind_of (take m (c ∷ d ∷ cs)) ≡ None
long_sign c d cs zero n e lt le = absurd (omega arith)
long_sign c d cs (suc zero) n e lt le = absurd (omega arith)
long_sign c d cs (suc (suc zero)) n e lt le = absurd (omega arith)
long_sign c d [] (suc (suc (suc m))) n e lt le = absurd (omega arith)
long_sign c d (x ∷ cs) (suc (suc (suc m))) n e lt le = sign_is c (d ∷ x ∷ take m cs) n e

pair_of : {A : Type 0} {x y : A} {a b : ℕ} → ◌≡◌ {A = Option (A × ℕ)} (Some (x, a)) (Some (y, b)) → (x ≡ y) × (a ≡ b)
pair_of {A} {x} {y} {a} {b} h = let p : ◌≡◌ {A = A × ℕ} (x, a) (y, b) = cc in (ap (λ q. q.0) p, ap (λ q. q.1) p)

two_front : (c d : ℕ) (cs : List ℕ) (kind : TokenKind) → is_letter c ≡ false → is_digit c ≡ false → sign_of_two c d ≡ Some kind → IsLongest (c ∷ d ∷ cs) 2 kind
two_front c d cs kind n e h = record { within = omega arith; is_token = sign_is c (d ∷ []) n e ∙ h; longest = λ m lt le. long_sign c d cs m n e lt le }

one_front : (c d : ℕ) (cs : List ℕ) (kind : TokenKind) → is_letter c ≡ false → is_digit c ≡ false → sign_of_two c d ≡ None → sign_of_one c ≡ Some kind → IsLongest (c ∷ d ∷ cs) 1 kind
one_front c d cs kind n e not_two h = record { within = omega arith; is_token = sign_is c [] n e ∙ h; longest = longer }
  where
    longer : (m : ℕ) → 1 < m → m ≤ length (c ∷ d ∷ cs) → kind_of (take m (c ∷ d ∷ cs)) ≡ None
    longer zero lt le = absurd (omega arith)
    longer (suc zero) lt le = absurd (omega arith)
    longer (suc (suc zero)) lt le = sign_is c (d ∷ []) n e ∙ not_two
    longer (suc (suc (suc m))) lt le = long_sign c d cs (suc (suc (suc m))) n e (omega arith) le

last_front : (c : ℕ) (kind : TokenKind) → is_letter c ≡ false → is_digit c ≡ false → sign_of_one c ≡ Some kind → IsLongest (c ∷ []) 1 kind
last_front c kind n e h = record { within = omega arith; is_token = sign_is c [] n e ∙ h; longest = λ m lt le. absurd (omega arith) }

pub sign_longest : (text : List ℕ) (kind : TokenKind) (n : ℕ) → is_letter (get_or text 0 0) ≡ false → is_digit (get_or text 0 0) ≡ false → sign_front text ≡ Some (kind, n)
    → IsLongest text n kind × (0 < n)
sign_longest [] kind n nl nd h = cc
sign_longest (c ∷ []) kind n nl nd h = by (sign_of_one c) refl h
  where
    by : (o : Option TokenKind) → sign_of_one c ≡ o → sign_or o 1 None ≡ Some (kind, n) → IsLongest (c ∷ []) n kind × (0 < n)
    by None e g = cc
    by (Some x) e g = let p = pair_of g in subst (λ y. IsLongest (c ∷ []) y kind × (0 < y)) p.1 (last_front c kind nl nd (e ∙ ap Some p.0), omega arith)
sign_longest (c ∷ d ∷ cs) kind n nl nd h = by (sign_of_two c d) refl (sign_of_one c) refl h
  where
    by : (o : Option TokenKind) → sign_of_two c d ≡ o → (u : Option TokenKind) → sign_of_one c ≡ u → sign_or o 2 (sign_or u 1 None) ≡ Some (kind, n) → IsLongest (c ∷ d ∷ cs) n kind × (0 < n)
    by (Some x) e u f g = let p = pair_of g in subst (λ y. IsLongest (c ∷ d ∷ cs) y kind × (0 < y)) p.1 (two_front c d cs kind nl nd (e ∙ ap Some p.0), omega arith)
    by None e (Some x) f g = let p = pair_of g in subst (λ y. IsLongest (c ∷ d ∷ cs) y kind × (0 < y)) p.1 (one_front c d cs kind nl nd e (f ∙ ap Some p.0), omega arith)
    by None e None f g = cc

pub none_front : (text : List ℕ) → 0 < length text → is_blank (get_or text 0 0) ≡ false → begins_comment text ≡ false → is_letter (get_or text 0 0) ≡ false → is_digit (get_or text 0 0) ≡ false
    → sign_front text ≡ None → IsBad text
none_front [] some nb nc nl nd h = absurd (omega arith)
none_front (c ∷ cs) some nb nc nl nd h = record {
  some = some;
  no_blank = λ x xs e. (let same : c ≡ x = cc in subst (λ y. is_blank y ≡ false) same nb);
  no_comment = nc;
  no_token = none cs h;
}
  where
    none_by : (d : ℕ) (cs : List ℕ) (o u : Option TokenKind) → sign_of_two c d ≡ o → sign_of_one c ≡ u → sign_or o 2 (sign_or u 1 None) ≡ None → (o ≡ None) × (u ≡ None)
    none_by d cs None None e f g = (refl, refl)
    none_by d cs None (Some x) e f g = cc
    none_by d cs (Some x) u e f g = cc

    one_by : (u : Option TokenKind) → sign_or u 1 None ≡ None → u ≡ None
    one_by None g = refl
    one_by (Some x) g = cc

    none : (cs : List ℕ) → sign_front (c ∷ cs) ≡ None → (m : ℕ) → kind_of (take m (c ∷ cs)) ≡ None
    none cs h zero = refl
    none [] h (suc zero) = sign_is c [] nl nd ∙ one_by (sign_of_one c) h
    none [] h (suc (suc m)) = sign_is c [] nl nd ∙ one_by (sign_of_one c) h
    none (d ∷ cs) h (suc zero) = sign_is c [] nl nd ∙ (none_by d cs (sign_of_two c d) (sign_of_one c) refl refl h).1
    none (d ∷ cs) h (suc (suc zero)) = sign_is c (d ∷ []) nl nd ∙ (none_by d cs (sign_of_two c d) (sign_of_one c) refl refl h).0
    none (d ∷ []) h (suc (suc (suc m))) = sign_is c (d ∷ []) nl nd ∙ (none_by d [] (sign_of_two c d) (sign_of_one c) refl refl h).0
    none (d ∷ x ∷ cs) h (suc (suc (suc m))) = sign_is c (d ∷ x ∷ take m cs) nl nd

line_short : (text : List ℕ) → line_rest text ≤ length text
line_short [] = omega arith
line_short (c ∷ cs) = grind (arith, line_short cs)

pub comment_front : (text : List ℕ) → begins_comment text ≡ true → (0 < line_rest text) × (line_rest text ≤ length text)
comment_front [] h = cc
comment_front (c ∷ []) h = cc
comment_front (c ∷ d ∷ cs) h = (grind (arith, nat_tests), line_short (c ∷ d ∷ cs))
