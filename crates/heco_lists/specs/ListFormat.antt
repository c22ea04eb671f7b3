-- Lists of places, words and errors in a file: each is a field.
use Rattle.std.specs.Prelude.{ℕ, ◌+◌, ◌-◌, ◌^◌, Bool, ◌&&◌, ◌||◌, ◌==◌, List, nat_lt, nat_le, if◌then◌else◌, ℤ}
use Rattle.std.specs.List.{flat_map}
use Rattle.std.specs.Int.{w8, w64, to_be_bytes, cast_unsigned}
use Rattle.std.specs.Int.RustNames.{unsigned_abs}
use Rattle.heco_fields.specs.Formats.{Format, signed_byte, many, within}
use Rattle.heco_nums.specs.Runs.{stays}

-- -1, 0 or 1, and 0 where h of the places before are not 0
abbrev pub is_place : ℕ → ℕ → ℤ → Bool
is_place h used z = nat_le (unsigned_abs z) 1 && (unsigned_abs z == 0 || nat_lt used h)

abbrev pub secret_place : ℕ → ℕ → Format ℤ
secret_place h used = signed_byte (is_place h used)

-- one more place is not 0
abbrev pub counted : ℕ → ℤ → ℕ
counted used z = if unsigned_abs z == 0 then used else used + 1

unfoldable pub sparse : ℕ → ℕ → Format (List ℤ)
sparse n h = many (secret_place h) counted n 0

abbrev pub word : ℕ → Format ℕ
word s = within w64 0 (2 ^ 58 - 1)

unfoldable pub words : ℕ → Format (List ℕ)
words n = many word stays n 0

-- from -b to b
abbrev pub error : ℕ → ℕ → Format ℤ
error b s = signed_byte (λ z. nat_le (unsigned_abs z) b)

unfoldable pub errors : ℕ → ℕ → Format (List ℤ)
errors n b = many (error b) stays n 0

-- ---- the same as text

abbrev pub byte_text : ℤ → List ℕ
byte_text z = to_be_bytes w8 (cast_unsigned w8 z)

unfoldable pub bytes_text : List ℤ → List ℕ
bytes_text zs = flat_map byte_text zs

unfoldable pub words_text : List ℕ → List ℕ
words_text a = flat_map (to_be_bytes w64) a
