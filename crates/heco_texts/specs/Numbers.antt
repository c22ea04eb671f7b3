-- The numbers of a text, by their digits.
use Rattle.std.specs.Prelude.{ℕ, ◌-◌, ◌^◌, Bool, false, List, [], ◌∷◌, Option, Some, None, if◌then◌else◌, map, min, option_map}
use Rattle.std.specs.Str.Parse.{digits_value}
use Rattle.heco_texts.specs.Forms.{is_blank, is_digit}

abbrev pub begins_with_digit : List ℕ → Bool
begins_with_digit [] = false
begins_with_digit (c ∷ cs) = is_digit c

-- the digit stands in front of the first number
abbrev pub longer : ℕ → List (List ℕ) → List (List ℕ)
longer c [] = (c ∷ []) ∷ []
longer c (digits ∷ more) = (c ∷ digits) ∷ more

abbrev pub one_more : ℕ → List (List ℕ) → List (List ℕ)
one_more c numbers = (c ∷ []) ∷ numbers

-- the numbers of a text, by its first byte, the bytes behind it and their numbers
abbrev pub with_byte : ℕ → List ℕ → Option (List (List ℕ)) → Option (List (List ℕ))
with_byte c cs more =
    if is_blank c then more else if is_digit c then (if begins_with_digit cs then option_map (longer c) more else option_map (one_more c) more) else None

-- the numbers that stand in the text with blanks between, or None where it has anything else
abbrev pub numbers_of : List ℕ → Option (List (List ℕ))
numbers_of [] = Some []
numbers_of (c ∷ cs) = with_byte c cs (numbers_of cs)

-- the number that the digits write
abbrev pub value_of : List ℕ → ℕ
value_of digits = digits_value 10 digits

-- the same where it fits 32 bits, and else the greatest number of 32 bits
abbrev pub capped_value : List ℕ → ℕ
capped_value digits = min (value_of digits) (2 ^ 32 - 1)

abbrev pub capped_values : List ℕ → Option (List ℕ)
capped_values text = option_map (map capped_value) (numbers_of text)
