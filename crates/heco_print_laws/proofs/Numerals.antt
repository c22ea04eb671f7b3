-- The decimal text of a number of at most ten digits is a token that has this number.
use Rattle.std.proofs.Common.{◌≡◌, refl, ℕ, ◌^◌, ◌<◌, ◌≤◌, Bool, true, false, List, [], ◌∷◌, Some, arith, length}
use Rattle.std.specs.Prelude.{nat_lt, ◌&&◌, decimal}
use Rattle.std.specs.List.{list_all}
use Rattle.std.specs.Str.Parse.{digits_value}
use Rattle.std.proofs.lemmas.Bool.{and_parts}
use Rattle.std.proofs.lemmas.Bool.Decides.{nat_tests}
use Rattle.std.proofs.Math.Nat.{pow-le-pow_right}
use Rattle.std.proofs.lemmas.Fmt.{decimal_nonempty, length-decimal-le, digits_decimal, digits_value-decimal}
use Rattle.std.proofs.lemmas.Int.Digits.{digits_value-lt}
use Rattle.std.proofs.lemmas.Str.Parse.{IsDigitsTest, IsNumeralModel, numerals_by_value}
use Rattle.heco_lex.specs.Kinds.{is_digit, kind_of}
use Rattle.heco_lex.specs.declared.token.TokenKind.TheVariants as k
use Rattle.heco_nums.specs.Words.{is_letter}
use Rattle.heco_syntax.proofs.KindFacts.{AreDigits}

at_least : (c : ℕ) → is_digit c ≡ true → 48 ≤ c
at_least c h = grind (arith, nat_tests)

at_most : (c : ℕ) → is_digit c ≡ true → c ≤ 57
at_most c h = grind (arith, nat_tests)

digit : (c : ℕ) → 48 ≤ c → c ≤ 57 → is_digit c ≡ true
digit c h g = grind (arith, nat_tests)

tells_digits : IsDigitsTest (λ ds. list_all is_digit ds ≡ true)
tells_digits = record {
  empty = refl;
  parts = λ c cs h. let d = and_parts (is_digit c) (list_all is_digit cs) h in ((at_least c d.0, at_most c d.0), d.1);
  more = λ c cs d h. rw (digit c d.0 d.1) h;
}

numerals : IsNumeralModel (λ ds. list_all is_digit ds ≡ true) (digits_value 10)
numerals = numerals_by_value (λ ds. list_all is_digit ds ≡ true) tells_digits

no_letter : (c : ℕ) → is_digit c ≡ true → is_letter c ≡ false
no_letter c h = grind (arith, nat_tests)

digits_are_number : (ds : List ℕ) → AreDigits ds → 0 < length ds → kind_of ds ≡ Some k.Number
digits_are_number [] d some = absurd (omega arith)
digits_are_number (c ∷ w) d some = by (is_digit c) refl d.all
  where
    by : (b : Bool) → is_digit c ≡ b → (b && list_all is_digit w) ≡ true → kind_of (c ∷ w) ≡ Some k.Number
    by true e g =
        let lt : nat_lt (length w) 10 ≡ true = (let a : length w < 10 = omega (arith, d.count) in grind (arith, nat_tests)) in
        rw (no_letter c e, e, g, lt) refl
    by false e g = cc

pub number_text : (n : ℕ) → n < 10 ^ 10 → kind_of (decimal n) ≡ Some k.Number
number_text n h =
    let fits : n < 2 ^ 64 = omega arith in
    let digits : AreDigits (decimal n) = record { all = digits_decimal numerals n fits; count = length-decimal-le 10 n (omega arith) h fits } in
    digits_are_number (decimal n) digits (decimal_nonempty n fits)

pub number_value : (n : ℕ) → n < 10 ^ 10 → digits_value 10 (decimal n) ≡ n
number_value n h = digits_value-decimal numerals n (omega arith)

pub below : (ds : List ℕ) → AreDigits ds → digits_value 10 ds < 10 ^ 10
below ds d = let ten : 0 < 10 = omega arith in omega (arith, digits_value-lt 10 ds (numerals.to ds d.all), pow-le-pow_right ten d.count)
