-- What `parse` reads of a word of digits.
use Rattle.std.proofs.Common.{◌≡◌, ◌∙◌, ◌<◌, ◌^◌, ℕ, Bool, true, false, List, length, Option, Some, None, Result, Ok, Err, refl, sym, ap}
use Rattle.std.specs.Prelude.{nat_lt, nat_le, ◌&&◌, if◌then◌else◌}
use Rattle.std.specs.Str.{all_ascii_digits}
use Rattle.std.specs.Str.Parse.{ParsesUnsigned, digits_value}
use Rattle.std.specs.Result.{OkIff}
use Rattle.std.proofs.lemmas.Bool.{and_parts, lt-ltb, ltb-true}
use Rattle.std.proofs.lemmas.Str.Parse.{parse_digits, numerals_by_value, tells_all_ascii_digits}
use Rattle.heco_top.specs.Seeds.{seed_of}

abbrev pub kept : {E : Type 0} → Result ℕ E → Option ℕ
kept (Ok n) = Some n
kept (Err e) = None

pub not_seed : (bs : List ℕ) → ((nat_lt 0 (length bs) && nat_le (length bs) 20) && all_ascii_digits bs) ≡ false → seed_of bs ≡ None
not_seed bs is = where_first (nat_lt 0 (length bs) && nat_le (length bs) 20) (all_ascii_digits bs) (nat_lt (digits_value 10 bs) (2 ^ 64)) (digits_value 10 bs) is
  where
    where_first : (a b c : Bool) (n : ℕ) → (a && b) ≡ false → (if a && (b && c) then Some n else None) ≡ None
    where_first true true c n is = absurd (let no : ⊥ = cc in no)
    where_first true false c n is = refl
    where_first false b c n is = refl

pub parsed_seed : {E : Type 0} (bs : List ℕ) (r : Result ℕ E) → ParsesUnsigned 64 10 bs r → ((nat_lt 0 (length bs) && nat_le (length bs) 20) && all_ascii_digits bs) ≡ true → kept r ≡ seed_of bs
parsed_seed bs r h is =
    let parts = and_parts (nat_lt 0 (length bs) && nat_le (length bs) 20) (all_ascii_digits bs) is in
    let some = and_parts (nat_lt 0 (length bs)) (nat_le (length bs) 20) parts.0 in
    let o = parse_digits (numerals_by_value (λ ds. all_ascii_digits ds ≡ true) tells_all_ascii_digits) 64 bs r h parts.1 in
    given r (nat_lt 0 (length bs) && nat_le (length bs) 20) (all_ascii_digits bs) (nat_lt (digits_value 10 bs) (2 ^ 64)) refl parts.0 parts.1 some.0 o
  where
    given : {E : Type 0} (r : Result ℕ E) (a b c : Bool) → c ≡ nat_lt (digits_value 10 bs) (2 ^ 64) → a ≡ true → b ≡ true → nat_lt 0 (length bs) ≡ true → OkIff r ((0 < length bs) × (digits_value 10 bs < 2 ^ 64)) (digits_value 10 bs)
        → kept r ≡ (if a && (b && c) then Some (digits_value 10 bs) else None)
    given (Ok n) a b c cut first second some o = rw (first, second, cut ∙ lt-ltb (digits_value 10 bs) (2 ^ 64) o.0.1) (ap Some o.1)
    given (Err e) a b true cut first second some o = absurd (o (ltb-true 0 (length bs) some, ltb-true (digits_value 10 bs) (2 ^ 64) (sym cut)))
    given (Err e) a b false cut first second some o = rw (first, second) refl
