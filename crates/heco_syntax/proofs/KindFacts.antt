-- What the kind of a text tells of its bytes.
use Rattle.std.proofs.Common.{◌≡◌, refl, ℕ, ◌<◌, ◌≤◌, Bool, true, false, List, [], ◌∷◌, Some, None, arith, length}
use Rattle.std.specs.List.{list_all}
use Rattle.std.specs.Prelude.{nat_lt, ◌&&◌, ◌||◌, ◌==◌, if◌then◌else◌, codes}
use Rattle.std.specs.Str.{bytes_eq}
use Rattle.std.proofs.lemmas.Bool.Decides.{nat_tests}
use Rattle.heco_nums.specs.Words.{is_letter, is_word_byte, is_word}
use Rattle.heco_lex.specs.Kinds.{is_digit, kind_of, word_kind, sign_kind}
use Rattle.heco_lex.specs.declared.token.TokenKind.TheVariants as k

no_reserved : (b0 b1 b2 b3 b4 b5 b6 b7 b8 b9 : Bool) → (if b0 then k.Params else if b1 then k.Fn else if b2 then k.In else if b3 then k.Out else if b4 then k.Int else if b5 then k.Secret else if b6 then k.For else if b7 then k.Def else if b8 then k.If else if b9 then k.Else else k.Word) ≡ k.Word → (b0 || b1 || b2 || b3 || b4 || b5 || b6 || b7 || b8 || b9) ≡ false
no_reserved true b1 b2 b3 b4 b5 b6 b7 b8 b9 h = cc
no_reserved false true b2 b3 b4 b5 b6 b7 b8 b9 h = cc
no_reserved false false true b3 b4 b5 b6 b7 b8 b9 h = cc
no_reserved false false false true b4 b5 b6 b7 b8 b9 h = cc
no_reserved false false false false true b5 b6 b7 b8 b9 h = cc
no_reserved false false false false false true b6 b7 b8 b9 h = cc
no_reserved false false false false false false true b7 b8 b9 h = cc
no_reserved false false false false false false false true b8 b9 h = cc
no_reserved false false false false false false false false true b9 h = cc
no_reserved false false false false false false false false false true h = cc
no_reserved false false false false false false false false false false h = refl

no_word_number : (b0 b1 b2 b3 b4 b5 b6 b7 b8 b9 : Bool) → (if b0 then k.Params else if b1 then k.Fn else if b2 then k.In else if b3 then k.Out else if b4 then k.Int else if b5 then k.Secret else if b6 then k.For else if b7 then k.Def else if b8 then k.If else if b9 then k.Else else k.Word) ≡ k.Number → ⊥
no_word_number true b1 b2 b3 b4 b5 b6 b7 b8 b9 h = cc
no_word_number false true b2 b3 b4 b5 b6 b7 b8 b9 h = cc
no_word_number false false true b3 b4 b5 b6 b7 b8 b9 h = cc
no_word_number false false false true b4 b5 b6 b7 b8 b9 h = cc
no_word_number false false false false true b5 b6 b7 b8 b9 h = cc
no_word_number false false false false false true b6 b7 b8 b9 h = cc
no_word_number false false false false false false true b7 b8 b9 h = cc
no_word_number false false false false false false false true b8 b9 h = cc
no_word_number false false false false false false false false true b9 h = cc
no_word_number false false false false false false false false false true h = cc
no_word_number false false false false false false false false false false h = cc

no_sign_number : (b0 b1 b2 b3 b4 b5 b6 b7 b8 b9 b10 b11 : Bool) → (if b0 then Some k.Open else if b1 then Some k.Close else if b2 then Some k.OpenBrace else if b3 then Some k.CloseBrace else if b4 then Some k.OpenBracket else if b5 then Some k.CloseBracket else if b6 then Some k.Comma else if b7 then Some k.Semi else if b8 then Some k.Assign else if b9 then Some k.Plus else if b10 then Some k.Minus else if b11 then Some k.Star else None) ≡ Some k.Number → ⊥
no_sign_number true b1 b2 b3 b4 b5 b6 b7 b8 b9 b10 b11 h = cc
no_sign_number false true b2 b3 b4 b5 b6 b7 b8 b9 b10 b11 h = cc
no_sign_number false false true b3 b4 b5 b6 b7 b8 b9 b10 b11 h = cc
no_sign_number false false false true b4 b5 b6 b7 b8 b9 b10 b11 h = cc
no_sign_number false false false false true b5 b6 b7 b8 b9 b10 b11 h = cc
no_sign_number false false false false false true b6 b7 b8 b9 b10 b11 h = cc
no_sign_number false false false false false false true b7 b8 b9 b10 b11 h = cc
no_sign_number false false false false false false false true b8 b9 b10 b11 h = cc
no_sign_number false false false false false false false false true b9 b10 b11 h = cc
no_sign_number false false false false false false false false false true b10 b11 h = cc
no_sign_number false false false false false false false false false false true b11 h = cc
no_sign_number false false false false false false false false false false false true h = cc
no_sign_number false false false false false false false false false false false false h = cc

no_sign_word : (b0 b1 b2 b3 b4 b5 b6 b7 b8 b9 b10 b11 : Bool) → (if b0 then Some k.Open else if b1 then Some k.Close else if b2 then Some k.OpenBrace else if b3 then Some k.CloseBrace else if b4 then Some k.OpenBracket else if b5 then Some k.CloseBracket else if b6 then Some k.Comma else if b7 then Some k.Semi else if b8 then Some k.Assign else if b9 then Some k.Plus else if b10 then Some k.Minus else if b11 then Some k.Star else None) ≡ Some k.Word → ⊥
no_sign_word true b1 b2 b3 b4 b5 b6 b7 b8 b9 b10 b11 h = cc
no_sign_word false true b2 b3 b4 b5 b6 b7 b8 b9 b10 b11 h = cc
no_sign_word false false true b3 b4 b5 b6 b7 b8 b9 b10 b11 h = cc
no_sign_word false false false true b4 b5 b6 b7 b8 b9 b10 b11 h = cc
no_sign_word false false false false true b5 b6 b7 b8 b9 b10 b11 h = cc
no_sign_word false false false false false true b6 b7 b8 b9 b10 b11 h = cc
no_sign_word false false false false false false true b7 b8 b9 b10 b11 h = cc
no_sign_word false false false false false false false true b8 b9 b10 b11 h = cc
no_sign_word false false false false false false false false true b9 b10 b11 h = cc
no_sign_word false false false false false false false false false true b10 b11 h = cc
no_sign_word false false false false false false false false false false true b11 h = cc
no_sign_word false false false false false false false false false false false true h = cc
no_sign_word false false false false false false false false false false false false h = cc

no_pair_number : (b0 b1 b2 b3 : Bool) → (if b0 then Some k.Range else if b1 then Some k.AddAssign else if b2 then Some k.SubAssign else if b3 then Some k.MulAssign else None) ≡ Some k.Number → ⊥
no_pair_number true b1 b2 b3 h = cc
no_pair_number false true b2 b3 h = cc
no_pair_number false false true b3 h = cc
no_pair_number false false false true h = cc
no_pair_number false false false false h = cc

no_pair_word : (b0 b1 b2 b3 : Bool) → (if b0 then Some k.Range else if b1 then Some k.AddAssign else if b2 then Some k.SubAssign else if b3 then Some k.MulAssign else None) ≡ Some k.Word → ⊥
no_pair_word true b1 b2 b3 h = cc
no_pair_word false true b2 b3 h = cc
no_pair_word false false true b3 h = cc
no_pair_word false false false true h = cc
no_pair_word false false false false h = cc

word_number : (w : List ℕ) → word_kind w ≡ k.Number → ⊥
word_number w h = no_word_number (bytes_eq w (codes "params")) (bytes_eq w (codes "fn")) (bytes_eq w (codes "in")) (bytes_eq w (codes "out")) (bytes_eq w (codes "int")) (bytes_eq w (codes "secret")) (bytes_eq w (codes "for")) (bytes_eq w (codes "def")) (bytes_eq w (codes "if")) (bytes_eq w (codes "else")) h

sign_number : (c : ℕ) (w : List ℕ) → sign_kind (c ∷ w) ≡ Some k.Number → ⊥
sign_number c [] h = no_sign_number (c == 40) (c == 41) (c == 123) (c == 125) (c == 91) (c == 93) (c == 44) (c == 59) (c == 61) (c == 43) (c == 45) (c == 42) h
sign_number c (d ∷ []) h = no_pair_number (c == 46 && d == 46) (c == 43 && d == 61) (c == 45 && d == 61) (c == 42 && d == 61) h
sign_number c (d ∷ e ∷ w) h = cc

sign_word : (c : ℕ) (w : List ℕ) → sign_kind (c ∷ w) ≡ Some k.Word → ⊥
sign_word c [] h = no_sign_word (c == 40) (c == 41) (c == 123) (c == 125) (c == 91) (c == 93) (c == 44) (c == 59) (c == 61) (c == 43) (c == 45) (c == 42) h
sign_word c (d ∷ []) h = no_pair_word (c == 46 && d == 46) (c == 43 && d == 61) (c == 45 && d == 61) (c == 42 && d == 61) h
sign_word c (d ∷ e ∷ w) h = cc

below : (n : ℕ) → nat_lt n 10 ≡ true → n < 10
below n h = grind (arith, nat_tests)

pub record AreDigits (bytes : List ℕ) : Type 0 where
  pub all : list_all is_digit bytes ≡ true
  pub count : length bytes ≤ 10

-- a number is up to ten digits
pub number_digits : (bytes : List ℕ) → kind_of bytes ≡ Some k.Number → AreDigits bytes
number_digits [] h = cc
number_digits (c ∷ w) h = by (is_letter c) (list_all is_word_byte w) (is_digit c) refl (list_all is_digit w) refl (nat_lt (length w) 10) refl h
  where
    by : (a b d : Bool) → is_digit c ≡ d → (e : Bool) → list_all is_digit w ≡ e → (f : Bool) → nat_lt (length w) 10 ≡ f
        → (if a then (if b then Some (word_kind (c ∷ w)) else None) else if d then (if e && f then Some k.Number else None) else sign_kind (c ∷ w)) ≡ Some k.Number → AreDigits (c ∷ w)
    by true true d p e q f r g = absurd (word_number (c ∷ w) (let x : word_kind (c ∷ w) ≡ k.Number = cc in x))
    by true false d p e q f r g = cc
    by false b true p true q true r g = record { all = rw (p, q) refl; count = (let x = below (length w) r in omega arith) }
    by false b true p true q false r g = cc
    by false b true p false q f r g = cc
    by false b false p e q f r g = absurd (sign_number c w g)

-- a text of the kind Word is a word
pub word_is_word : (bytes : List ℕ) → kind_of bytes ≡ Some k.Word → is_word bytes ≡ true
unfolding is_word
word_is_word [] h = cc
word_is_word (c ∷ v) h = by (is_letter c) refl (list_all is_word_byte v) refl (is_digit c) (list_all is_digit v && nat_lt (length v) 10) h
  where
    by : (a : Bool) → is_letter c ≡ a → (b : Bool) → list_all is_word_byte v ≡ b → (d e : Bool)
        → (if a then (if b then Some (word_kind (c ∷ v)) else None) else if d then (if e then Some k.Number else None) else sign_kind (c ∷ v)) ≡ Some k.Word → is_word (c ∷ v) ≡ true
    by true p true q d e g =
        let is : word_kind (c ∷ v) ≡ k.Word = cc in
        let free = no_reserved (bytes_eq (c ∷ v) (codes "params")) (bytes_eq (c ∷ v) (codes "fn")) (bytes_eq (c ∷ v) (codes "in")) (bytes_eq (c ∷ v) (codes "out")) (bytes_eq (c ∷ v) (codes "int")) (bytes_eq (c ∷ v) (codes "secret")) (bytes_eq (c ∷ v) (codes "for")) (bytes_eq (c ∷ v) (codes "def")) (bytes_eq (c ∷ v) (codes "if")) (bytes_eq (c ∷ v) (codes "else")) is in
        rw (p, q, free) refl
    by true p false q d e g = cc
    by false p b q true true g = cc
    by false p b q true false g = cc
    by false p b q false e g = absurd (sign_word c v g)
