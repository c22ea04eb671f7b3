-- A seed as a word.
use Rattle.std.specs.Prelude.{ℕ, ◌^◌, ◌&&◌, List, length, Option, Some, None, nat_lt, nat_le, if◌then◌else◌}
use Rattle.std.specs.Str.{all_ascii_digits}
use Rattle.std.specs.Str.Parse.{digits_value}

-- 1 to 20 digits whose number is below 2^64
abbrev pub seed_of : List ℕ → Option ℕ
seed_of word = if (nat_lt 0 (length word) && nat_le (length word) 20)
    && (all_ascii_digits word && nat_lt (digits_value 10 word) (2 ^ 64)) then Some (digits_value 10 word) else None
